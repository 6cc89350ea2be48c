use Rattle.std.proofs.Common.{arith}
use Rattle.core_files.proofs.SeenRanges.{seen-none, seen-here, seen-missed}
use Rattle.core_files.proofs.ranges.range_by_halving.Goals as goal

pub returns-in-0-clause-range : goal.returns-in-0-clause-range
returns-in-0-clause-range c = seen-none c.args.ranges.now c.args.address c.requires c.count_at_or_below.result c.count_at_or_below.ensures.bound c.count_at_or_below.ensures.partition c.in-0.is

pub returns-then-contains-clause-range : goal.returns-then-contains-clause-range
returns-then-contains-clause-range c =
    seen-here c.args.ranges.now c.args.address c.requires c.count_at_or_below.result c.count_at_or_below.ensures.bound c.count_at_or_below.ensures.partition (omega arith) _ c.if-contains.ensures

pub returns-else-contains-clause-range : goal.returns-else-contains-clause-range
returns-else-contains-clause-range c =
    seen-missed c.args.ranges.now c.args.address c.requires c.count_at_or_below.result c.count_at_or_below.ensures.bound c.count_at_or_below.ensures.partition (omega arith) _ c.if-contains.ensures
