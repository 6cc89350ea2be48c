-- Tables of rules as contracts see them.
use Rattle.std.specs.Prelude.{◌≡◌, ◌<◌, ◌≤◌, ◌+◌, ◌^◌, ℕ, length}
use Rattle.std.specs.List.{sum_by}
use Rattle.dwarf_frame_entries.specs.EntryPrograms.{fde_rows}
use Rattle.dwarf_frame_rows.specs.FrameSection.{FrameSection}
use Rattle.framehop_ranges.specs.Changes.{ChangesSo}
use Rattle.framehop_ranges.specs.RangeTables.{range_count, value_at}
use Rattle.framehop_ranges.specs.RangeTables as ranges
use Rattle.framehop_index.specs.EntryFor.{indexed_fdes}
use Rattle.framehop_tables.specs.declared.covered.Covered.{Covered}
use Rattle.framehop_tables.specs.declared.rule_table.RuleTable.{RuleTable}
use Rattle.framehop_tables.specs.Covered.{Tabulated, covered_at}

-- what a table says of a relative address
abbrev pub rule_at : {A Registers Rule Kept : Type 0} → RuleTable A Registers Rule Kept → ℕ → Covered Rule
rule_at table relative = value_at table.table relative

-- how many entries a table has
abbrev pub entry_count : {A Registers Rule Kept : Type 0} → RuleTable A Registers Rule Kept → ℕ
entry_count table = range_count table.table

-- how many of its entries start in the block of addresses that a relative address is in
abbrev pub near_count : {A Registers Rule Kept : Type 0} → RuleTable A Registers Rule Kept → ℕ → ℕ
near_count table relative = ranges.near_count table.table relative

-- how many rows the FDEs of an index have, and how many FDEs there are
abbrev pub room_of : {Rule : Type 0} → Tabulated Rule → ℕ
room_of t = sum_by (λ fde. length (fde_rows t.limits t.section t.vendor fde).rows + 1) (indexed_fdes t.base t.section)

-- The table says of each relative address of 32 bits what the index of the section says, with no more entries than rows and FDEs, and
-- one.
pub record IsTableOf {A Registers Rule Kept : Type 0} (t : (base : ℕ) → FrameSection → Tabulated Rule) (table : RuleTable A Registers Rule Kept) (base : ℕ)
    (section : FrameSection) : Type 0 where
  pub says : (relative : ℕ) → relative < 2 ^ 32 → rule_at table relative ≡ covered_at (t base section) relative
  pub few : entry_count table ≤ room_of (t base section) + 1

-- What a look-up of a relative address gave is what the index of the table's section says.
abbrev pub SaysAsIndex : {A Registers Rule Kept : Type 0} → RuleTable A Registers Rule Kept → (relative : ℕ) → Covered Rule → Type 0
SaysAsIndex {A} {Registers} {Rule} {Kept} table relative covered =
    (t : (base : ℕ) → FrameSection → Tabulated Rule) (base : ℕ) (section : FrameSection) → IsTableOf t table base section
    → covered ≡ covered_at (t base section) relative

-- At so many addresses the index of the table's section says something else than at the address before.
abbrev pub CountsChanges : {A Registers Rule Kept : Type 0} → RuleTable A Registers Rule Kept → (count : ℕ) → Type 0
CountsChanges {A} {Registers} {Rule} {Kept} table count =
    (t : (base : ℕ) → FrameSection → Tabulated Rule) (base : ℕ) (section : FrameSection) → IsTableOf t table base section
    → ChangesSo (covered_at (t base section)) count
