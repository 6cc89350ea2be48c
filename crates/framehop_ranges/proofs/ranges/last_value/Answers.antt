use Rattle.std.proofs.Common.{sym}
use Rattle.framehop_ranges.proofs.RangeLaws.{last-is}
use Rattle.framehop_ranges.proofs.ranges.last_value.Goals as goal

pub returns-in-Some : goal.returns-in-Some
returns-in-Some g c = sym (last-is c.args.before c.args.entries.now c.in-Some.entry.now (sym (rw c.in-Some.is at c.last.ensures.value)))
