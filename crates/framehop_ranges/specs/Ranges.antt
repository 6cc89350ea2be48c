-- Ranges of addresses and their values, while a table is built.
use Rattle.std.specs.Prelude.{◌≡◌, ◌<◌, ◌≤◌, ◌+◌, ◌^◌, ℕ, length, max}
use Rattle.std.specs.List.{All}
use Rattle.framehop_ranges.specs.declared.ranges.Ranges.{Ranges}
use Rattle.framehop_ranges.specs.RangeValues.{Differ, last_or, value_in}
use Rattle.framehop_ranges.specs.Rises.{Rises}

-- the value at an address
abbrev pub range_at : {V : Type 0} → Ranges V → ℕ → V
range_at ranges address = value_in ranges.before ranges.entries.items address

-- the value at their end
abbrev pub end_value : {V : Type 0} → Ranges V → V
end_value ranges = last_or ranges.before ranges.entries.items

-- the ranges rise, start below the end of the last and at addresses of 32 bits, and each has another value than the one before it
pub record Sound {V : Type 0} (ranges : Ranges V) : Type 0 where
  pub rises : Rises ranges.entries.items
  pub below : All (λ entry. entry.start < ranges.done) ranges.entries.items
  pub fit : All (λ entry. entry.start < 2 ^ 32) ranges.entries.items
  pub differ : Differ ranges.before ranges.entries.items

-- no range has been added
abbrev pub AddsNone : {V : Type 0} → (old ranges : Ranges V) → Type 0
AddsNone old ranges = ranges.entries.items ≡ old.entries.items

-- nothing has changed
pub record AreSame {V : Type 0} (old ranges : Ranges V) : Type 0 where
  pub before : ranges.before ≡ old.before
  pub entries : ranges.entries.items ≡ old.entries.items
  pub done : ranges.done ≡ old.done

-- These ranges have the values of the old ones below the end of those, and from there up to another end one value.
pub record Extends {V : Type 0} (old : Ranges V) (end : ℕ) (value : V) (ranges : Ranges V) : Type 0 where
  pub sound : Sound ranges
  pub same : ranges.before ≡ old.before
  pub done : ranges.done ≡ max old.done end
  pub few : length ranges.entries.items ≤ length old.entries.items + 1
  pub below : (address : ℕ) → address < old.done → range_at ranges address ≡ range_at old address
  pub from : (address : ℕ) → old.done ≤ address → address < ranges.done → range_at ranges address ≡ value
