use Rattle.std.proofs.Common.{arith}
use Rattle.core_files.proofs.SeenRanges.{seen-loses, seen-loses-none}
use Rattle.core_files.proofs.ranges.any_loses.Goals as goal

pub returns-then-range-gt0 : goal.returns-then-range-gt0
returns-then-range-gt0 c = seen-loses c.args.ranges.now c.loop-range.range-index _ (omega arith) c.if-range-gt0.true

pub returns : goal.returns
returns c = seen-loses-none c.args.ranges.now c.loop-range.range-index (omega arith) c.loop-range.invariant
