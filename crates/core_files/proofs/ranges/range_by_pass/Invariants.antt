use Rattle.std.proofs.Common.{◌≡◌, false}
use Rattle.std.specs.List.{AllWithin}
use Rattle.core_files.specs.Ranges.{contains}
use Rattle.core_files.specs.RangeViews.{range_seen}
use Rattle.core_files.proofs.ranges.range_by_pass.Given as goal

abbrev pub invariant-loop-range : goal.invariant-loop-range
invariant-loop-range l = AllWithin (λ range. contains l.address (range_seen range) ≡ false) l.ranges 0 l.range-index
