use Rattle.std.proofs.Common.{◌∙◌}
use Rattle.core_files.specs.RangeViews.{range_seen, ranges_seen}
use Rattle.core_files.proofs.Words.{among-none, among-here}
use Rattle.core_files.proofs.ranges.Ranges.byte.Goals as goal

pub returns-in_default : goal.returns-in_default
returns-in_default c = among-none (ranges_seen c.args.self.now.ranges.now) c.args.address c.in_default.ensures.range

pub returns : goal.returns
returns c = c.byte.ensures ∙ among-here (ranges_seen c.args.self.now.ranges.now) c.args.address (range_seen c.in-Some.range) c.in-Some.ensures.range
