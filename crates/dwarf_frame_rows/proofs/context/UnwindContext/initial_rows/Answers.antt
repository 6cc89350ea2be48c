use Rattle.std.proofs.Common.{sym}
use Rattle.dwarf_frame_rows.proofs.OnlyRule.{few-not-counted}
use Rattle.dwarf_frame_rows.proofs.context.UnwindContext.initial_rows.Goals as goal

pub returns-in-Unknown : goal.returns-in-Unknown
returns-in-Unknown g c = sym (few-not-counted c.args.self.now.initial_rules _ c.in-Unknown.is)
