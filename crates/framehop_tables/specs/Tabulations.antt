-- What rows and FDEs add to ranges of relative addresses, while a table is built.
use Rattle.std.specs.Prelude.{◌≡◌, ◌<◌, ◌≤◌, ◌+◌, ◌-◌, ◌^◌, ℕ, zero, suc, List, [], ◌∷◌, length, max, min, Bool, true, false, Result, Ok, Err, IfOk, nat_lt, if◌then◌else◌}
use Rattle.dwarf_constants.specs.declared.error.Error.{Error}
use Rattle.dwarf_frame_rows.specs.Effects.{Limits}
use Rattle.dwarf_frame_rows.specs.Row.{Row}
use Rattle.dwarf_frame_instructions.specs.Programs.{EntryProgram, RowList, rows_of_program}
use Rattle.dwarf_frame_entries.specs.Entries.{Fde, fde_from_offset}
use Rattle.dwarf_frame_entries.specs.EntryPrograms.{fde_rows}
use Rattle.framehop_index.specs.declared.cfi_index.IndexedFde.{IndexedFde}
use Rattle.framehop_ranges.specs.declared.ranges.Ranges.{Ranges}
use Rattle.framehop_ranges.specs.Ranges.{Sound, Extends, range_at}
use Rattle.framehop_tables.specs.declared.covered.Covered.{Covered}
use Rattle.framehop_tables.specs.declared.spans.Span.{Span}
use Rattle.framehop_tables.specs.Covered.{RowRules, Tabulated, by_entry, by_rows, by_rule, covered_at}

-- the first row starts at or below an address, and each other one where the one before it ends
abbrev pub GoOn : (address : ℕ) → List (Row ℕ) → Type 0
GoOn address [] = Unit {0}
GoOn address (row ∷ rows) = (row.start ≤ address) × GoOn row.end rows

-- These ranges are the old ones below their end, and from there on, up to the limit of a span, as rows say; these have to go on from
-- there.
pub record AddsRows {Rule : Type 0} (rules : RowRules Rule) (span : Span) (left : RowList ℕ) (old new : Ranges (Covered Rule)) : Type 0 where
  pub sound : Sound new
  pub same : new.before ≡ old.before
  pub done : new.done ≡ max old.done span.limit
  pub few : length new.entries.items ≤ length old.entries.items + length left.rows + 1
  pub below : (relative : ℕ) → relative < old.done → range_at new relative ≡ range_at old relative
  pub from : GoOn (span.base_svma + old.done) left.rows → (relative : ℕ) → old.done ≤ relative → relative < new.done
      → range_at new relative ≡ by_rows rules span.offset left (span.base_svma + relative)

-- ranges to which a span of addresses can be added
pub record CanAdd {Rule : Type 0} (ranges : Ranges Rule) (span : Span) : Type 0 where
  pub sound : Sound ranges
  pub fits : span.limit ≤ 2 ^ 32

-- how many rows end past an address
abbrev pub rows_past : (address : ℕ) → List (Row ℕ) → ℕ
rows_past address [] = 0
rows_past address (row ∷ rows) = if nat_lt address row.end then suc (rows_past address rows) else rows_past address rows

-- .. as far as their new end, so that some rows may be left: those that end past it
pub record Begins {Rule : Type 0} (rules : RowRules Rule) (span : Span) (all : RowList ℕ) (old new : Ranges (Covered Rule)) : Type 0 where
  pub same : new.before ≡ old.before
  pub least : old.done ≤ new.done
  pub most : new.done ≤ max old.done span.limit
  pub few : length new.entries.items + rows_past (span.base_svma + new.done) all.rows ≤ length old.entries.items + length all.rows
  pub below : (relative : ℕ) → relative < old.done → range_at new relative ≡ range_at old relative
  pub from : GoOn (span.base_svma + old.done) all.rows → (relative : ℕ) → old.done ≤ relative → relative < new.done
      → range_at new relative ≡ by_rows rules span.offset all (span.base_svma + relative)

-- All rows were added; or only some may have been.
abbrev pub AddsOrBegins : {Rule : Type 0} → RowRules Rule → Span → RowList ℕ → Ranges (Covered Rule) → Ranges (Covered Rule) → Bool → Type 0
AddsOrBegins rules span rows old new true = AddsRows rules span rows old new
AddsOrBegins rules span rows old new false = Sound new × Begins rules span rows old new

-- .. of a program
abbrev pub AddsProgram : {Rule : Type 0} → RowRules Rule → Span → Limits → EntryProgram ℕ → Ranges (Covered Rule) → Ranges (Covered Rule) → Bool
    → Type 0
AddsProgram rules span limits program = AddsOrBegins rules span (rows_of_program limits program)

-- The rows that were not there yet were added.
abbrev pub AddsOthers : {Rule : Type 0} → RowRules Rule → Span → RowList ℕ → Ranges (Covered Rule) → Ranges (Covered Rule) → Type 0
AddsOthers {Rule} rules span all begun new = (old : Ranges (Covered Rule)) → Begins rules span all old begun → AddsRows rules span all old new

-- .. those of a program
abbrev pub AddsRest : {Rule : Type 0} → RowRules Rule → Span → Limits → EntryProgram ℕ → Ranges (Covered Rule) → Ranges (Covered Rule) → Type 0
AddsRest rules span limits program = AddsOthers rules span (rows_of_program limits program)

-- A row was added: what is said up to its end. If it ends before the old end, nothing is added for it.
pub record AddsRow {Rule : Type 0} (old : Ranges (Covered Rule)) (end : ℕ) (covered : Covered Rule) (new : Ranges (Covered Rule)) : Type 0 where
  pub extends : Extends old end covered new
  pub none : end ≤ old.done → length new.entries.items ≤ length old.entries.items

-- .. as an architecture's rules say
abbrev pub SaysRow : {Rule : Type 0} → RowRules Rule → Span → Row ℕ → Ranges (Covered Rule) → Ranges (Covered Rule) → Type 0
SaysRow rules span row old new = AddsRow old (min (row.end - span.base_svma) span.limit) (by_rule span.offset (rules.rule_of row)) new

-- how many rows an FDE has, if there is one
abbrev pub row_count : {Rule : Type 0} → Tabulated Rule → Result Fde Error → ℕ
row_count t (Ok fde) = length (fde_rows t.limits t.section t.vendor fde).rows
row_count t (Err e) = 0

-- .. as what is at an offset says, if it starts at or below the old end
pub record AddsEntry {Rule : Type 0} (t : Tabulated Rule) (span : Span) (entry : Result Fde Error) (old new : Ranges (Covered Rule)) : Type 0 where
  pub sound : Sound new
  pub same : new.before ≡ old.before
  pub done : new.done ≡ max old.done span.limit
  pub few : length new.entries.items ≤ length old.entries.items + row_count t entry + 1
  pub below : (relative : ℕ) → relative < old.done → range_at new relative ≡ range_at old relative
  pub from : IfOk entry (λ fde. fde.initial_address ≤ span.base_svma + old.done) → (relative : ℕ) → old.done ≤ relative
      → relative < new.done → range_at new relative ≡ by_entry t span.offset entry (span.base_svma + relative)

-- ---- the FDEs of an index

-- the relative addresses up to here have 64 bits
abbrev pub end_of : (base : ℕ) → ℕ
end_of base = min (2 ^ 32) (2 ^ 64 - base)

-- where the FDE at a place of the index starts; after the last the addresses end
abbrev pub start_at : (end : ℕ) → List IndexedFde → (place : ℕ) → ℕ
start_at end [] place = end
start_at end (kept ∷ others) zero = min kept.start end
start_at end (kept ∷ others) (suc place) = start_at end others place

-- how many rows and FDEs an index has
abbrev pub room_within : {Rule : Type 0} → Tabulated Rule → List IndexedFde → ℕ
room_within t [] = 0
room_within t (kept ∷ others) = row_count t (fde_from_offset t.section kept.offset) + 1 + room_within t others

-- These ranges say of each relative address what the index says.
pub record AreOf {Rule : Type 0} (t : Tabulated Rule) (kept : List IndexedFde) (ranges : Ranges (Covered Rule)) : Type 0 where
  pub sound : Sound ranges
  pub few : length ranges.entries.items ≤ room_within t kept + 1
  pub says : (relative : ℕ) → relative < 2 ^ 32 → range_at ranges relative ≡ covered_at t relative
