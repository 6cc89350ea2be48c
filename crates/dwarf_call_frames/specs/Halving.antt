-- Binary search in a table: the row that it reaches, and which row that is if the starts increase.
use Rattle.std.specs.Prelude.{◌≡◌, ℕ, zero, suc, ◌+◌, ◌/◌, ◌==◌, List, [], ◌∷◌, length, take, drop, map, Option, Some, None, Result, Ok, Err, nat_lt, nat_le, if◌then◌else◌}
use Rattle.std.specs.List.{filter}
use Rattle.std.specs.List.Sorted.{IsStrictlyIncreasing}
use Rattle.dwarf_constants.specs.declared.error.Error.{Error}
use Rattle.dwarf_constants.specs.declared.error.Error.TheVariants.{NoUnwindInfoForAddress}
use Rattle.dwarf_frame_rows.specs.declared.pointer.Pointer.{Pointer}
use Rattle.list_laws.specs.Last.{last_of}

-- a row: the start of an FDE's code and the pointer to the FDE, or the error of reading each
pub record TableRow : Type 0 where
  pub start : Result ℕ Error
  pub target : Result Pointer Error

-- the start in the first of some rows
abbrev pub first_start : List TableRow → Result ℕ Error
first_start [] = Err NoUnwindInfoForAddress
first_start (row ∷ rows) = row.start

-- the pointer to an FDE in the first of some rows
abbrev pub first_target : List TableRow → Result Pointer Error
first_target [] = Err NoUnwindInfoForAddress
first_target (row ∷ rows) = row.target

-- the pointer in the row that halving reaches, and how many starts it reads
pub record Halving : Type 0 where
  pub reached : Result Pointer Error
  pub reads : ℕ

-- halving ends at the first of these rows
abbrev pub ended_at : List TableRow → Halving
ended_at rows = record { reached = first_target rows; reads = 0 }

-- halving reads a start, and ends if that is an error
abbrev pub after_start : Result ℕ Error → (ℕ → Halving) → Halving
after_start (Ok start) next = record { reached = (next start).reached; reads = suc (next start).reads }
after_start (Err e) next = record { reached = Err e; reads = 1 }

-- at most n halves: of two rows or more, the one at half their number is the pivot. If its start is the address, it is the row;
-- if the start is less, the rows from it on are halved, and if it is greater, those before it.
abbrev pub halving_within : ℕ → ℕ → List TableRow → Halving
halving_within zero address rows = ended_at rows
halving_within (suc n) address rows =
    let half = length rows / 2 in
    if half == 0 then ended_at rows
    else after_start (first_start (drop half rows)) (λ pivot.
    if pivot == address then ended_at (drop half rows)
    else if nat_lt pivot address then halving_within n address (drop half rows)
    else halving_within n address (take half rows))

-- rows are halved until one is left
unfoldable pub halving : ℕ → List TableRow → Halving
halving address rows = halving_within (length rows) address rows

-- A lookup returned the pointer that halving reaches, and counted the starts that it read.
pub record GivesHalving (halved : Halving) (answer : Result Pointer Error) (before after : ℕ) : Type 0 where
  pub row : answer ≡ halved.reached
  pub counted : after ≡ before + halved.reads

-- ---- rows whose starts increase

-- a row whose start can be read, with its pointer to the FDE, or the error of reading that
abbrev pub row_with_start : ℕ × Result Pointer Error → TableRow
row_with_start row = record { start = Ok row.0; target = row.1 }

-- the pointer in a row, or else in the first of these
abbrev pub target_or_first : Option (ℕ × Result Pointer Error) → List (ℕ × Result Pointer Error) → Result Pointer Error
target_or_first (Some row) rows = row.1
target_or_first None [] = Err NoUnwindInfoForAddress
target_or_first None (row ∷ rows) = row.1

-- the pointer in the last row whose start is at or below the address, else in the first row
abbrev pub target_at_or_below : ℕ → List (ℕ × Result Pointer Error) → Result Pointer Error
target_at_or_below address rows = target_or_first (last_of (filter (λ row. nat_le row.0 address) rows)) rows

-- If all starts can be read and increase, halving reaches the last row at or below the address, or else the first; whether its
-- pointer can be read or not.
abbrev pub FindsRowAtOrBelow : ℕ → List (ℕ × Result Pointer Error) → Type 0
FindsRowAtOrBelow address rows =
    IsStrictlyIncreasing (map (λ row. row.0) rows)
    → (halving address (map row_with_start rows)).reached ≡ target_at_or_below address rows
