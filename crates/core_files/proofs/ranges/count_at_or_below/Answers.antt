use Rattle.std.proofs.Common.{rules, of_calls}
use Rattle.std.specs.Prelude.{nat_le}
use Rattle.std.proofs.lemmas.Fn.{always_returns_same}
use Rattle.core_files.specs.declared.memory_range.MemoryRange.{MemoryRange}
use Rattle.core_files.proofs.SeenRanges.{seen-partitioned, seen-partition}
use Rattle.core_files.proofs.ranges.count_at_or_below.Goals as goal

pub returns-clause-partition : goal.returns-clause-partition
returns-clause-partition c =
    seen-partition c.args.ranges.now c.args.address c.requires c.partition_point.result c.partition_point.ensures.bound
    (c.partition_point.ensures.partitioned (λ (range : MemoryRange). nat_le range.address c.args.address) (always_returns_same _ _ _ (λ a r f k. search (rules, of_calls)))
    (seen-partitioned c.args.ranges.now c.args.address c.requires))
