-- The rows that a table of the code has left, and the one that it gave last.
use Rattle.std.specs.Prelude.{◌≡◌, ◌≢◌, ◌<◌, ℕ, List, Option, None, OnSome, option_map, Result, Ok, Err, IfErr, IfOk, IsOk}
use Rattle.std.specs.Borrow.{Bor}
use Rattle.dwarf_constants.specs.declared.error.Error.{Error}
use Rattle.dwarf_constants.specs.declared.error.Error.TheVariants.{OutOfMemory}
use Rattle.dwarf_readers.specs.Stretch.{Stretch}
use Rattle.dwarf_frame_rows.specs.declared.row.UnwindTableRow.{UnwindTableRow}
use Rattle.dwarf_frame_rows.specs.Effects.{Limits}
use Rattle.dwarf_frame_rows.specs.Row.{Row}
use Rattle.dwarf_frame_instructions.specs.Execution.{IsRefusal, row_in}
use Rattle.dwarf_frame_instructions.specs.ProgramRows.{GivesFirst, current_row, rows_left, rows_left_by, steps_left}
use Rattle.dwarf_frame_instructions.specs.Programs.{EntryProgram, RowList, effects_of_cie, rows_of_program}
use Rattle.dwarf_frame_entries.specs.declared.table.UnwindTable.{UnwindTable}

module _ {R S E O L K : Type 0} (stretch : R → Stretch) (limit : ℕ) where
  -- how many steps are left: the FDE's instructions, and their end
  abbrev pub table_steps : UnwindTable R S E O L K → ℕ
  table_steps table = steps_left stretch limit table.rows

module _ {R S E O L K : Type 0} (stretch : R → Stretch) (limit : ℕ) (number : O → ℕ)
    (items : K → List (UnwindTableRow O L)) (limits : Limits) where
  -- the rows that are left, and the error that ends them, if one does
  abbrev pub table_rows : UnwindTable R S E O L K → RowList ℕ
  table_rows table = rows_left stretch limit number items limits table.rows

  -- A call gave the first of the rows that are left, or said that none is, or failed as they do.
  abbrev pub GivesTableRow : (Fixed : Type 0) → UnwindTable R S E O L K → Result (Option (Bor (UnwindTableRow O L))) Error → Type 0
  GivesTableRow Fixed old result = GivesFirst number Fixed (table_rows old) result

module _ {R S E O L K : Type 0} (number : O → ℕ) (items : K → List (UnwindTableRow O L)) where
  -- the row that was given last, if the last call gave one
  abbrev pub table_row : UnwindTable R S E O L K → Option (Row ℕ)
  table_row table = current_row number items table.rows

-- the row that a call gave, if it gave one
abbrev pub row_given : {O L : Type 0} → (O → ℕ) → Result (Option (Bor (UnwindTableRow O L))) Error → Option (Row ℕ)
row_given number (Ok given) = option_map (λ row. row_in number row.now) given
row_given number (Err _) = None

-- After a call of `next_row` and once its row is given back: the other rows are left, the row that it gave is the current one, and
-- where it gave one fewer steps are left.
pub record NextLeaves {R S E O L K : Type 0} (stretch : R → Stretch) (limit : ℕ) (number : O → ℕ)
    (items : K → List (UnwindTableRow O L)) (limits : Limits) (old : UnwindTable R S E O L K)
    (result : Result (Option (Bor (UnwindTableRow O L))) Error) (last : UnwindTable R S E O L K) : Type 0 where
  pub left : table_rows stretch limit number items limits last ≡ rows_left_by (table_rows stretch limit number items limits old) result
  pub current : table_row number items last ≡ row_given number result
  pub falls : IfOk result (λ given. OnSome given (table_steps stretch limit last < table_steps stretch limit old))

-- A table was made exactly if the CIE's instructions are executed without an error: all rows of the program are left, and it gave none
-- yet. Its error is theirs, unless memory ran out. `Fixed` says that the storage doesn't allocate; then memory never runs out.
pub record MakesTable {R S E O L K : Type 0} (stretch : R → Stretch) (limit : ℕ) (number : O → ℕ)
    (items : K → List (UnwindTableRow O L)) (limits : Limits) (Fixed : Type 0)
    (result : Result (UnwindTable R S E O L K) Error) (program : EntryProgram ℕ) : Type 0 where
  pub left : IfOk result (λ table. table_rows stretch limit number items limits table ≡ rows_of_program limits program)
  pub none_given : IfOk result (λ table. table_row number items table ≡ None)
  pub started : IfOk result (λ table. IsOk (effects_of_cie limits program))
  pub error : IfErr result (λ e. IsRefusal Fixed e → effects_of_cie limits program ≡ Err e)
  pub memory : Fixed → IfErr result (λ e. e ≢ OutOfMemory)
