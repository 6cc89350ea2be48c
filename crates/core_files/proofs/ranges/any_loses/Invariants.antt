use Rattle.std.proofs.Common.{◌≡◌, false}
use Rattle.std.specs.Prelude.{nat_lt}
use Rattle.std.specs.List.{AllWithin}
use Rattle.core_files.proofs.ranges.any_loses.Given as goal

abbrev pub invariant-loop-range : goal.invariant-loop-range
invariant-loop-range l = AllWithin (λ range. nat_lt 0 range.lost ≡ false) l.ranges 0 l.range-index
