-- A row for an address, without a context.
use Rattle.std.specs.Prelude.{◌≡◌, ℕ, Result, Ok, Err}
use Rattle.dwarf_constants.specs.declared.error.Error.{Error}
use Rattle.dwarf_frame_rows.specs.Effects.{Limits}
use Rattle.dwarf_frame_rows.specs.Row.{Row}
use Rattle.dwarf_frame_instructions.specs.Programs.{EntryProgram, row_for}
use Rattle.dwarf_frame_parts.specs.declared.parts_rows.PartsAt.{PartsAt}
use Rattle.dwarf_frame_parts.specs.declared.parts_rows.PartsAt.TheVariants.{Found, Uncovered, GivesUp}
use Rattle.dwarf_frame_parts.specs.declared.simple_row.Columns.{Columns}
use Rattle.dwarf_frame_parts.specs.PartsStates.{HasRoomForParts}
use Rattle.dwarf_frame_parts.specs.RowParts.{parts_of}
use Rattle.dwarf_frame_parts.specs.SimpleRows.{parts_shown}

-- The row is there, and has the parts that were found; or there is none, and one of the definition's errors.
abbrev pub IsPartsAt : Columns → Result (Row ℕ) Error → PartsAt → Type 0
IsPartsAt columns answer (Found parts) = (row : Row ℕ) × (answer ≡ Ok row) × (parts_of columns.fp columns.ra row ≡ parts_shown parts)
IsPartsAt columns answer Uncovered = (e : Error) × (answer ≡ Err e)
IsPartsAt columns answer GivesUp = Unit {0}

-- .. of a program's row for an address, within all limits that have room for each row that is made without a context
abbrev pub IsPartsOf : Columns → EntryProgram ℕ → (address : ℕ) → PartsAt → Type 0
IsPartsOf columns program address result =
    (limits : Limits) → HasRoomForParts limits → IsPartsAt columns (row_for limits program address) result
