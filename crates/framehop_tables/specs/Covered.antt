-- What the index of a section of call frames says of an address, before any frame is known.
use Rattle.std.specs.Prelude.{ℕ, ◌+◌, ◌^◌, Option, Some, None, Result, Ok, Err, nat_lt, if◌then◌else◌}
use Rattle.dwarf_constants.specs.declared.common.Vendor.{Vendor}
use Rattle.dwarf_constants.specs.declared.error.Error.{Error}
use Rattle.dwarf_frame_rows.specs.Effects.{Limits}
use Rattle.dwarf_frame_rows.specs.FrameSection.{FrameSection}
use Rattle.dwarf_frame_rows.specs.Row.{Row}
use Rattle.dwarf_frame_instructions.specs.Programs.{RowList, row_among}
use Rattle.dwarf_frame_entries.specs.Entries.{Fde, fde_from_offset}
use Rattle.dwarf_frame_entries.specs.EntryPrograms.{fde_rows}
use Rattle.framehop_index.specs.Lookups.{found_by_index}
use Rattle.framehop_rows.specs.RowMeanings.{RowMeanings}
use Rattle.framehop_tables.specs.declared.covered.Covered.{Covered}
use Rattle.framehop_tables.specs.declared.covered.Covered.TheVariants.{Nothing, Says, Evaluates}

-- a rule that is said can be executed
abbrev pub SaysValid : {Rule : Type 0} → (Rule → Type 0) → Covered Rule → Type 0
SaysValid is_valid Nothing = Unit {0}
SaysValid is_valid (Says rule) = is_valid rule
SaysValid is_valid (Evaluates offset) = Unit {0}

-- which rule says a row exactly, if one does, and the rule for code that no row covers
pub record RowRules (Rule : Type 0) : Type 0 where
  pub rule_of : Row ℕ → Option Rule
  pub uncovered : Rule

-- the rules of rows on an architecture
abbrev pub row_rules : {Rule Registers : Type 0} → RowMeanings Rule Registers → (Row ℕ → Option Rule) → RowRules Rule
row_rules m rule_of = record { rule_of = rule_of; uncovered = m.uncovered }

-- A section with the base of its relative addresses, read with the instructions of a vendor and within limits of rows, on an
-- architecture with these rules.
pub record Tabulated (Rule : Type 0) : Type 0 where
  pub rules : RowRules Rule
  pub limits : Limits
  pub vendor : Vendor
  pub section : FrameSection
  pub base : ℕ

-- a section with its base, on an architecture
abbrev pub tabulated : {Rule Registers : Type 0} → RowMeanings Rule Registers → (Row ℕ → Option Rule) → Limits → Vendor → (base : ℕ)
    → FrameSection → Tabulated Rule
tabulated m rule_of limits vendor base section =
    record { rules = row_rules m rule_of; limits = limits; vendor = vendor; section = section; base = base }

-- by a row of the FDE at this offset: the rule that says it, or else the row itself
abbrev pub by_rule : {Rule : Type 0} → (offset : ℕ) → Option Rule → Covered Rule
by_rule offset (Some rule) = Says rule
by_rule offset None = Evaluates offset

-- .. or the rule for code that no row covers
abbrev pub by_row : {Rule : Type 0} → RowRules Rule → (offset : ℕ) → Result (Row ℕ) Error → Covered Rule
by_row rules offset (Ok row) = by_rule offset (rules.rule_of row)
by_row rules offset (Err e) = Says rules.uncovered

-- by the rows of the FDE at this offset
abbrev pub by_rows : {Rule : Type 0} → RowRules Rule → (offset : ℕ) → RowList ℕ → (address : ℕ) → Covered Rule
by_rows rules offset rows address = by_row rules offset (row_among address rows)

-- by what is at this offset
abbrev pub by_entry : {Rule : Type 0} → Tabulated Rule → (offset : ℕ) → Result Fde Error → (address : ℕ) → Covered Rule
by_entry t offset (Ok fde) address = by_rows t.rules offset (fde_rows t.limits t.section t.vendor fde) address
by_entry t offset (Err e) address = Nothing

-- by the FDE at the offset that was found, if there is one and the address has 64 bits
abbrev pub by_offset : {Rule : Type 0} → Tabulated Rule → (relative : ℕ) → Option ℕ → Covered Rule
by_offset t relative (Some offset) =
    if nat_lt (t.base + relative) (2 ^ 64) then by_entry t offset (fde_from_offset t.section offset) (t.base + relative) else Nothing
by_offset t relative None = Nothing

-- what the index of a section says of a relative address
unfoldable pub covered_at : {Rule : Type 0} → Tabulated Rule → (relative : ℕ) → Covered Rule
covered_at t relative = by_offset t relative (found_by_index t.section t.base relative)
