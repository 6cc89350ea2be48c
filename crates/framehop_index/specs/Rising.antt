-- Lists in the order of their keys.
use Rattle.std.specs.Prelude.{◌<◌, ℕ, List, length, reverse}
use Rattle.std.specs.List.{slice_index_or}
use Rattle.std.specs.List.Sorted.{IsNonDecreasingBy, IsPermutation, IsStableByKey}
use Rattle.std.specs.Ordering.{nat_cmp}
use Rattle.framehop_index.specs.declared.cfi_index.IndexedFde.{IndexedFde}

-- each key is above those before it
abbrev pub RisesBy : {X : Type 0} → (X → ℕ) → List X → Type 0
RisesBy {X} key xs = (i j : ℕ) (d : X) → i < j → j < length xs → key (slice_index_or xs i d) < key (slice_index_or xs j d)

-- The FDEs are sorted by their starts, the last of equal starts before the first.
pub record IsSortedFromBack (fdes sorted : List IndexedFde) : Type 0 where
  pub ordered : IsNonDecreasingBy (λ fde. fde.start) sorted
  pub moved : IsPermutation (reverse fdes) sorted
  pub stable : IsStableByKey (λ fde. fde.start) nat_cmp (reverse fdes) sorted
