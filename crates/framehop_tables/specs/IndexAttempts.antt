-- The attempt at a step by the index of a section, and by what a table says.
use Rattle.std.specs.Prelude.{◌≡◌, ℕ, ◌+◌, ◌^◌, Bool, Option, Some, None, option_and_then, Result, Ok, Err, nat_lt, if◌then◌else◌}
use Rattle.dwarf_constants.specs.declared.error.Error.{Error}
use Rattle.dwarf_frame_rows.specs.Effects.{Limits}
use Rattle.dwarf_frame_rows.specs.FrameSection.{FrameSection}
use Rattle.dwarf_frame_rows.specs.Row.{Row}
use Rattle.dwarf_frame_entries.specs.Entries.{Fde, fde_from_offset}
use Rattle.dwarf_frame_entries.specs.EntryPrograms.{fde_row}
use Rattle.framehop_index.specs.Lookups.{found_by_index}
use Rattle.framehop_rows.specs.RowAttempt.{RowAttempt, Translates}
use Rattle.framehop_rows.specs.RowMeanings.{RowMeanings}
use Rattle.framehop_tables.specs.declared.covered.Covered.{Covered}
use Rattle.framehop_tables.specs.declared.covered.Covered.TheVariants.{Nothing, Says, Evaluates}
use Rattle.framehop_tables.specs.Covered.{covered_at, tabulated}

-- A frame at an address relative to the base of a section: whether it is the first, and within which limits of rows and, if there is one,
-- of the values of an expression.
pub record Frame : Type 0 where
  pub first : Bool
  pub limits : Limits
  pub values : Option ℕ
  pub section : FrameSection
  pub base : ℕ
  pub relative : ℕ

module _ {Rule Registers : Type 0} (m : RowMeanings Rule Registers) (frame : Frame) where
  -- the attempt by a row of an FDE, or by the rule for code that no row covers
  abbrev pub attempt_by_row : Fde → Result (Row ℕ) Error → RowAttempt Rule Registers
  attempt_by_row fde (Ok row) = m.row_attempt frame.first frame.values fde.cie.address_size frame.section.within.bytes row
  attempt_by_row fde (Err e) = Translates m.uncovered

  -- by what is at an offset, if an FDE can be read there
  abbrev pub attempt_by_entry : Result Fde Error → Option (RowAttempt Rule Registers)
  attempt_by_entry (Ok fde) = Some (attempt_by_row fde (fde_row frame.limits frame.section m.vendor fde (frame.base + frame.relative)))
  attempt_by_entry (Err e) = None

  -- .. and the address has 64 bits
  abbrev pub attempt_by_offset : (offset : ℕ) → Option (RowAttempt Rule Registers)
  attempt_by_offset offset =
      if nat_lt (frame.base + frame.relative) (2 ^ 64) then attempt_by_entry (fde_from_offset frame.section offset) else None

  -- the attempt by the FDE that the section's index has, if it has one
  abbrev pub attempt_by_index : Option (RowAttempt Rule Registers)
  attempt_by_index = option_and_then attempt_by_offset (found_by_index frame.section frame.base frame.relative)

  -- the attempt by what a table says
  abbrev pub attempt_by_table : Covered Rule → Option (RowAttempt Rule Registers)
  attempt_by_table Nothing = None
  attempt_by_table (Says rule) = Some (Translates rule)
  attempt_by_table (Evaluates offset) = attempt_by_offset offset

-- The attempt by what a table says is that by the section's index, in any frame.
abbrev pub AttemptsByIndex : {Rule Registers : Type 0} → RowMeanings Rule Registers → (Row ℕ → Option Rule) → Type 0
AttemptsByIndex m rule_of =
    (frame : Frame)
    → attempt_by_table m frame (covered_at (tabulated m rule_of frame.limits m.vendor frame.base frame.section) frame.relative)
    ≡ attempt_by_index m frame
