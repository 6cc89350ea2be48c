-- The rows that a program of the code has left, and the one that it gave last.
use Rattle.std.specs.Prelude.{◌≡◌, ℕ, suc, zero, List, [], ◌∷◌, length, Bool, false, Option, Some, None, option_map, Result, Ok, Err, IfErr, IfOk, if◌then◌else◌}
use Rattle.std.specs.Borrow.{Bor}
use Rattle.dwarf_constants.specs.declared.error.Error.{Error}
use Rattle.dwarf_readers.specs.Stretch.{Stretch}
use Rattle.dwarf_frame_rows.specs.declared.row.UnwindTableRow.{UnwindTableRow}
use Rattle.dwarf_frame_rows.specs.Effects.{Limits, ContextState, with_bounds}
use Rattle.dwarf_frame_rows.specs.Row.{Row}
use Rattle.dwarf_frame_instructions.specs.declared.effects.Factors.{Factors}
use Rattle.dwarf_frame_instructions.specs.declared.rows.FrameProgram.{FrameProgram}
use Rattle.dwarf_frame_instructions.specs.declared.rows.ProgramRows.{ProgramRows}
use Rattle.dwarf_frame_instructions.specs.Execution.{Fails, Goes, IsRefusal, Leaves, row_in, state_in, state_step}
use Rattle.dwarf_frame_instructions.specs.InstructionViews.{instructions_by}
use Rattle.dwarf_frame_instructions.specs.Programs.{Instructions, EntryProgram, RowList, no_rows, refused_rows, row_before, rows_of_program}

-- a program of the code
abbrev pub program_of : {R E O : Type 0} → FrameProgram R E O → EntryProgram ℕ
program_of program = record {
  factors = program.factors;
  initial_address = program.initial_address;
  end_address = program.end_address;
  initial_instructions = program.initial_instructions;
  instructions = program.instructions;
}

-- ---- lists of rows

-- no row, or the error that ends the rows
abbrev pub end_of_rows : Option Error → Result (Option (Row ℕ)) Error
end_of_rows None = Ok None
end_of_rows (Some e) = Err e

-- the first of the rows that are left, or that none is, or their error
abbrev pub first_of : RowList ℕ → Result (Option (Row ℕ)) Error
first_of left = elim left.rows [
  | [] ↦ end_of_rows left.refusal
  | row ∷ others ↦ Ok (Some row)
]

-- the rows after the first
abbrev pub after_first : RowList ℕ → RowList ℕ
after_first left = elim left.rows [
  | [] ↦ no_rows
  | row ∷ others ↦ record { rows = others; refusal = left.refusal }
]

-- what a call leaves of rows: those after the first, and none after an error
abbrev pub rows_left_by : {A : Type 0} → RowList ℕ → Result A Error → RowList ℕ
rows_left_by left (Ok _) = after_first left
rows_left_by left (Err _) = no_rows

-- ---- the answers of calls

-- whether a call gave a row
abbrev pub is_given : Result Bool Error → Bool
is_given (Ok given) = given
is_given (Err e) = false

module _ {O L : Type 0} (number : O → ℕ) where
  module _ (Fixed : Type 0) where
    -- A call gave the first of the rows that are left, or said that none is, or failed as they do.
    abbrev pub GivesFirst : RowList ℕ → Result (Option (Bor (UnwindTableRow O L))) Error → Type 0
    GivesFirst left (Ok given) = first_of left ≡ Ok (option_map (λ row. row_in number row.now) given)
    GivesFirst left (Err e) = IsRefusal Fixed e → first_of left ≡ Err e

    -- A call gave the row for an address, or failed as the rows do.
    abbrev pub IsRowFor : Result (Row ℕ) Error → Result (Bor (UnwindTableRow O L)) Error → Type 0
    IsRowFor answer (Ok shown) = answer ≡ Ok (row_in number shown.now)
    IsRowFor answer (Err e) = IsRefusal Fixed e → answer ≡ Err e

-- ---- what is left

-- the rows that instructions make of a state, from a start to the end of the code
abbrev pub rows_of_state : Limits → Factors → ℕ → ℕ → ContextState ℕ → Instructions ℕ → RowList ℕ
rows_of_state limits factors end start state [] = row_before (with_bounds start end state).row no_rows
rows_of_state limits factors end start state (Err e ∷ rest) = refused_rows e
rows_of_state limits factors end start state (Ok i ∷ rest) =
    elim (state_step limits factors start state i) [
      | Goes next ↦
          row_before (with_bounds start next state).row (rows_of_state limits factors end next (with_bounds start next state) rest)
      | Leaves other ↦ rows_of_state limits factors end start other rest
      | Fails e ↦ refused_rows e
    ]

module _ {R S E O L K : Type 0} (stretch : R → Stretch) (limit : ℕ) where
  -- the instructions that are left
  abbrev pub instructions_left : ProgramRows R S E O L K → Instructions ℕ
  instructions_left rows = instructions_by stretch limit rows.coding rows.input

  -- how many steps are left: the instructions, and their end
  abbrev pub steps_left : ProgramRows R S E O L K → ℕ
  steps_left rows = if rows.is_ended then zero else suc (length (instructions_left rows))

module _ {R S E O L K : Type 0} (number : O → ℕ) (items : K → List (UnwindTableRow O L)) where
  -- the state of the context of rows
  abbrev pub rows_state : ProgramRows R S E O L K → ContextState ℕ
  rows_state rows = state_in number items rows.context.now

  -- The row of the context now ends at an address, and starts where the last one ended.
  abbrev pub EndsRow : ℕ → ProgramRows R S E O L K → ProgramRows R S E O L K → Type 0
  EndsRow end old new = rows_state new ≡ with_bounds old.next_start_address end (rows_state old)

  -- the row that was given last, if the last call gave one
  abbrev pub current_row : ProgramRows R S E O L K → Option (Row ℕ)
  current_row rows = if rows.has_row then Some (rows_state rows).row else None

module _ {R S E O L K : Type 0} (stretch : R → Stretch) (limit : ℕ) (number : O → ℕ) (items : K → List (UnwindTableRow O L)) (limits : Limits) where
  -- the rows that are left, and the error that ends them, if one does
  abbrev pub rows_left : ProgramRows R S E O L K → RowList ℕ
  rows_left rows =
      if rows.is_ended
      then no_rows
      else rows_of_state limits rows.factors rows.end_address rows.next_start_address (rows_state number items rows)
      (instructions_left stretch limit rows)

  -- All rows of a program are left.
  abbrev pub HasAllRows : EntryProgram ℕ → ProgramRows R S E O L K → Type 0
  HasAllRows program rows = rows_left rows ≡ rows_of_program limits program

  -- A call went on to the first of the rows, or said that none is left, or failed as they do; the others are left.
  pub record Advances (Fixed : Type 0) (old : ProgramRows R S E O L K) (result : Result Bool Error) (new : ProgramRows R S E O L K) : Type 0 where
    pub first : IfOk result (λ more. first_of (rows_left old) ≡ Ok (current_row number items new))
    pub refused : IfErr result (λ e. IsRefusal Fixed e → first_of (rows_left old) ≡ Err e)
    pub left : rows_left new ≡ rows_left_by (rows_left old) result
    pub given : new.has_row ≡ is_given result
