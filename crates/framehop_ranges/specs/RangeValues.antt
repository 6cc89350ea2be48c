-- A function of addresses that is constant between some starts: each start, with the value from there on.
use Rattle.std.specs.Prelude.{◌≢◌, ◌<◌, ℕ, zero, suc, List, [], ◌∷◌, length, nat_le, if◌then◌else◌}
use Rattle.std.specs.List.{slice_index_or}
use Rattle.framehop_ranges.specs.declared.entry.RangeEntry.{RangeEntry}

-- the value at an address: that of the last start at or below it, or another before the first
abbrev pub value_from : {V : Type 0} → V → List (RangeEntry V) → ℕ → V
value_from before [] address = before
value_from before (entry ∷ entries) address = value_from (if nat_le entry.start address then entry.value else before) entries address

-- .. opened by name in proofs
unfoldable pub value_in : {V : Type 0} → V → List (RangeEntry V) → ℕ → V
value_in before entries address = value_from before entries address

-- the value from the last start on
abbrev pub last_or : {V : Type 0} → V → List (RangeEntry V) → V
last_or before [] = before
last_or before (entry ∷ entries) = last_or entry.value entries

-- the value before the start at a place
abbrev pub value_before : {V : Type 0} → V → List (RangeEntry V) → (place : ℕ) → V
value_before before entries zero = before
value_before before [] (suc place) = before
value_before before (entry ∷ entries) (suc place) = value_before entry.value entries place

-- each value is another than the one before it
abbrev pub Differ : {V : Type 0} → V → List (RangeEntry V) → Type 0
Differ {V} before entries =
    (place : ℕ) (d : RangeEntry V) → place < length entries → (slice_index_or entries place d).value ≢ value_before before entries place
