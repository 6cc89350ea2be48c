use Rattle.std.proofs.Common.{arith}
use Rattle.core_files.proofs.SeenRanges.{seen-pass-here, seen-pass-end}
use Rattle.core_files.proofs.ranges.range_by_pass.Goals as goal

pub returns-then-contains-clause-range : goal.returns-then-contains-clause-range
returns-then-contains-clause-range c = seen-pass-here c.args.ranges.now c.args.address c.loop-range.range-index _ (omega arith) c.loop-range.invariant c.if-contains.ensures

pub returns-clause-range : goal.returns-clause-range
returns-clause-range c = seen-pass-end c.args.ranges.now c.args.address c.loop-range.range-index (omega arith) c.loop-range.invariant
