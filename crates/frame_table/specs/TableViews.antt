-- Tables as contracts see them, and what a call shows of rows.
use Rattle.std.specs.Prelude.{◌≡◌, ℕ, List, ◌++◌, Bool, true, false, Some, None, Result, Ok, Err, IfOk}
use Rattle.std.specs.Bool.{OnTrue}
use Rattle.dwarf_constants.specs.declared.error.Error.{Error}
use Rattle.dwarf_frame_instructions.specs.ProgramRows.{program_of}
use Rattle.dwarf_frame_instructions.specs.Programs.{RowList, rows_of_program}
use Rattle.dwarf_frame_instructions.specs.declared.rows.FrameProgram.{FrameProgram}
use Rattle.dwarf_frame_rows.specs.Effects.{Limits}
use Rattle.frame_table.specs.Tables.{Table, row_lines}
use Rattle.frame_table.specs.declared.tables.Table.{Table as Made}

-- a table of the code
abbrev pub table_view : Made → Table
table_view table = record {
  machine = table.machine;
  address_size = table.address_size;
  return_address = table.return_address.0;
  columns = table.columns.items;
  is_shown = table.is_shown;
}

-- the rows of a program of the code, within limits
abbrev pub rows_within : {R E O : Type 0} → Limits → FrameProgram R E O → RowList ℕ
rows_within limits program = rows_of_program limits (program_of program)

-- this holds if a call found one more row
abbrev pub IfMore : Type 0 → Result Bool Error → Type 0
IfMore P answer = IfOk answer (λ more. OnTrue more P)

-- A call appended the line of the first of the rows, and these others are left; or all lines are there, and it returned the error
-- that ends the rows, if one does.
abbrev pub ShowsNext : RowList ℕ → Table → RowList ℕ → List ℕ → List ℕ → Result Bool Error → Type 0
ShowsNext others table left old new (Ok true) =
    (others.refusal ≡ left.refusal) × (new ++ row_lines table others.rows ≡ old ++ row_lines table left.rows)
ShowsNext others table left old new (Ok false) = (left.refusal ≡ None) × (new ≡ old ++ row_lines table left.rows)
ShowsNext others table left old new (Err refusal) = (left.refusal ≡ Some refusal) × (new ≡ old ++ row_lines table left.rows)
