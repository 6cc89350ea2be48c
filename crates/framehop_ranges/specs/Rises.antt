-- Entries whose starts rise.
use Rattle.std.specs.Prelude.{◌<◌, ℕ, List, length}
use Rattle.std.specs.List.{slice_index_or}
use Rattle.framehop_ranges.specs.declared.entry.RangeEntry.{RangeEntry}

-- each starts above those before it
abbrev pub Rises : {V : Type 0} → List (RangeEntry V) → Type 0
Rises {V} entries =
    (i j : ℕ) (d : RangeEntry V) → i < j → j < length entries → (slice_index_or entries i d).start < (slice_index_or entries j d).start
