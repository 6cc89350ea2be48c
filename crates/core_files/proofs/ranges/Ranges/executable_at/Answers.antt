use Rattle.core_files.specs.RangeViews.{range_seen, ranges_seen}
use Rattle.core_files.proofs.Words.{executable-none, executable-here}
use Rattle.core_files.proofs.ranges.Ranges.executable_at.Goals as goal

pub returns-in-None : goal.returns-in-None
returns-in-None c = executable-none (ranges_seen c.args.self.now.ranges.now) c.args.address c.in-None.ensures.range

pub returns-in-Some : goal.returns-in-Some
returns-in-Some c = executable-here (ranges_seen c.args.self.now.ranges.now) c.args.address (range_seen c.in-Some.range) c.in-Some.ensures.range
