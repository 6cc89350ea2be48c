-- What is found in the rows of a section's FDEs: rows that no unwind rule says exactly, and FDEs whose rows end with an error (DWARF 5,
-- 6.4.1 to 6.4.3).
use Rattle.std.specs.Prelude.{ℕ, List, [], Option, Some, None, option_map, Result, Ok, Err}
use Rattle.std.specs.List.{filter_map, flat_map}
use Rattle.dwarf_constants.specs.declared.common.Vendor.{Vendor}
use Rattle.dwarf_constants.specs.declared.error.Error.{Error}
use Rattle.dwarf_frame_rows.specs.Effects.{Limits}
use Rattle.dwarf_frame_rows.specs.FrameSection.{FrameSection}
use Rattle.dwarf_frame_rows.specs.Row.{Row}
use Rattle.dwarf_frame_instructions.specs.Programs.{RowList}
use Rattle.dwarf_frame_entries.specs.Entries.{AnyEntry, Fde}
use Rattle.dwarf_frame_entries.specs.EntryLists.{entries_of}
use Rattle.dwarf_frame_entries.specs.EntryPrograms.{fde_rows}
use Rattle.dwarf_frame_entries.specs.SectionFdes.{fde_in}
use Rattle.backtrace_lint.specs.declared.row_lines.FailedFde.{FailedFde}

-- where a row starts, unless it has a rule
abbrev pub start_without : {Rule : Type 0} → Row ℕ → Option Rule → Option ℕ
start_without row (Some rule) = None
start_without row None = Some row.start

-- where a row starts, if no rule says it
abbrev pub unsaid_start : {Rule : Type 0} → (rule_of : Row ℕ → Option Rule) → Row ℕ → Option ℕ
unsaid_start rule_of row = start_without row (rule_of row)

-- where the rows start that no rule says
abbrev pub unsaid_starts : {Rule : Type 0} → (rule_of : Row ℕ → Option Rule) → RowList ℕ → List ℕ
unsaid_starts rule_of rows = filter_map (unsaid_start rule_of) rows.rows

-- an FDE at an offset, if its rows end with an error
abbrev pub failed_at : (offset : ℕ) → (refusal : Option Error) → Option FailedFde
failed_at offset refusal = option_map (λ error. record { offset = offset; error = error }) refusal

-- rows by the room that there is for them, whose extensions of instructions are read, and the unwind rule that says a row exactly, if
-- one does
module _ {Rule : Type 0} (limits : Limits) (vendor : Vendor) (rule_of : Row ℕ → Option Rule) (section : FrameSection) where
  -- where the rows of an FDE start that no rule says
  abbrev pub unsaid_of : Fde → List ℕ
  unsaid_of fde = unsaid_starts rule_of (fde_rows limits section vendor fde)

  -- an FDE, if its rows end with an error
  abbrev pub failed_of : Fde → Option FailedFde
  failed_of fde = failed_at fde.head.offset (fde_rows limits section vendor fde).refusal

  -- .. of what was read, if it is an FDE
  abbrev pub unsaid_read : Option (Result Fde Error) → List ℕ
  unsaid_read (Some (Ok fde)) = unsaid_of fde
  unsaid_read (Some (Err error)) = []
  unsaid_read None = []

  abbrev pub failed_read : Option (Result Fde Error) → Option FailedFde
  failed_read (Some (Ok fde)) = failed_of fde
  failed_read (Some (Err error)) = None
  failed_read None = None

  -- .. of items of the section's list
  abbrev pub unsaid_among : List (Result AnyEntry Error) → List ℕ
  unsaid_among items = flat_map (λ item. unsaid_read (fde_in section item)) items

  abbrev pub failed_among : List (Result AnyEntry Error) → List FailedFde
  failed_among items = filter_map (λ item. failed_read (fde_in section item)) items

  -- where the rows of a section start that no rule says
  abbrev pub unsaid_rows : List ℕ
  unsaid_rows = unsaid_among (entries_of section)

  -- the FDEs of a section whose rows end with an error
  abbrev pub failed_fdes : List FailedFde
  failed_fdes = failed_among (entries_of section)
