-- Tables as contracts see them.
use Rattle.std.specs.Prelude.{◌≡◌, ◌<◌, ℕ, ◌/◌, ◌^◌, ◌==◌, count_by, length}
use Rattle.framehop_ranges.specs.declared.range_table.RangeTable.{RangeTable}
use Rattle.framehop_ranges.specs.Changes.{ChangesSo}
use Rattle.framehop_ranges.specs.RangeValues.{value_in}

-- the value at an address
abbrev pub value_at : {V : Type 0} → RangeTable V → ℕ → V
value_at table address = value_in table.before table.entries.items address

-- how many ranges a table has
abbrev pub range_count : {V : Type 0} → RangeTable V → ℕ
range_count table = length table.entries.items

-- how many ranges of a table start in the block of addresses that an address is in
abbrev pub near_count : {V : Type 0} → RangeTable V → ℕ → ℕ
near_count table address = count_by (λ entry. entry.start / 2 ^ table.shift == address / 2 ^ table.shift) table.entries.items

-- A function whose values a table has changes at so many addresses.
abbrev pub CountsChanges : {V : Type 0} → RangeTable V → (count : ℕ) → Type 0
CountsChanges {V} table count =
    (f : ℕ → V) → ((address : ℕ) → address < 2 ^ 32 → value_at table address ≡ f address) → ChangesSo f count
