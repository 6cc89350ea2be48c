use Rattle.std.specs.List.{AllAdjacentBelow}
use Rattle.core_files.specs.Ranges.{IsBefore}
use Rattle.core_files.specs.RangeViews.{range_seen}
use Rattle.core_files.proofs.ranges.is_increasing.Given as goal

abbrev pub invariant-loop-next : goal.invariant-loop-next
invariant-loop-next l = AllAdjacentBelow (λ range next. IsBefore (range_seen range) (range_seen next)) l.ranges l.next
