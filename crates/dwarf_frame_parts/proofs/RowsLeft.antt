-- The rows that are left, by their parts.
use Rattle.std.proofs.Common.{◌≡◌, ℕ, Bool, true, false, [], ◌∷◌, Some, None, Ok, refl, sym, ap, subst, ◌∙◌}
use Rattle.dwarf_constants.specs.declared.error.Error.TheVariants.{NoUnwindInfoForAddress}
use Rattle.dwarf_readers.specs.Stretch.{Stretch}
use Rattle.dwarf_frame_rows.specs.Effects.{Limits}
use Rattle.dwarf_frame_rows.specs.Row.{Row, holds_at}
use Rattle.dwarf_frame_instructions.specs.declared.effects.Factors.{Factors}
use Rattle.dwarf_frame_instructions.specs.declared.instructions.CallFrameInstruction.{CallFrameInstruction}
use Rattle.dwarf_frame_instructions.specs.Programs.{EntryProgram, InstructionStep, Instructions, Moves, Refused, RowList, Writes, effects_of_cie, no_rows, refused_rows, row_after, row_among, row_before, rows_after_cie, rows_from, rows_of_program, rules_left, step_of}
use Rattle.dwarf_frame_parts.specs.declared.execution.Action.{Action}
use Rattle.dwarf_frame_parts.specs.declared.execution.Action.TheVariants as action
use Rattle.dwarf_frame_parts.specs.declared.parts_rows.FdeProgram.{FdeProgram}
use Rattle.dwarf_frame_parts.specs.declared.parts_rows.PartsAt.TheVariants.{Found, Uncovered}
use Rattle.dwarf_frame_parts.specs.declared.parts_rows.PartsRows.{PartsRows}
use Rattle.dwarf_frame_parts.specs.declared.parts_state.PartsState.{PartsState}
use Rattle.dwarf_frame_parts.specs.declared.simple_row.Columns.{Columns}
use Rattle.dwarf_frame_parts.specs.declared.simple_row.SimpleRow.{SimpleRow}
use Rattle.dwarf_frame_parts.specs.Answers.{IsPartsAt}
use Rattle.dwarf_frame_parts.specs.Execution.{ExecutesFirst, ExecutesNext, Leaves, frame_of}
use Rattle.dwarf_frame_parts.specs.PartsRows.{GoesOn, HasRows, IsAt, IsLast, is_between, program_with, rest_of}
use Rattle.dwarf_frame_parts.specs.PartsStates.{AreApart, Effects, Follows, HasRoomForParts, Rules}
use Rattle.dwarf_frame_parts.proofs.PartsSteps.{parts-kept}

-- what was done with the first of some instructions was done with the next one
pub executes-next : (columns : Columns) (factors : Factors) (location : ℕ) (before after : Instructions ℕ) (old new : PartsState) (done : Action)
    → ExecutesFirst columns factors location before after old new done → ExecutesNext columns factors location before after old new (Some done)
executes-next columns factors location before after old new (action.Moves to) first = first
executes-next columns factors location before after old new action.Writes first = first
executes-next columns factors location before after old new action.GivesUp first = tt

-- the rows of a program, after its CIE's own instructions
rows-start : (limits : Limits) (program : EntryProgram ℕ) (executed : Effects) → effects_of_cie limits program ≡ Ok executed
    → rows_of_program limits program ≡ rows_from (frame_of program.factors limits (rules_left executed)) program.end_address program.initial_address executed program.instructions
rows-start limits program executed is = ap (rows_after_cie limits program) is

module _ (factors : Factors) (limits : Limits) (initial : Rules) (end start : ℕ) (executed : Effects) where
  abbrev Left : ℕ → Effects → Instructions ℕ → RowList ℕ
  Left location effects rest = rows_from (frame_of factors limits initial) end location effects rest

  -- what a step makes of rows
  abbrev rows_by : Instructions ℕ → InstructionStep ℕ → RowList ℕ
  rows_by rest step = elim step [
    | Moves location ↦ row_before (row_after initial start location executed) (Left location executed rest)
    | Writes effect ↦ Left start (effect ∷ executed) rest
    | Refused e ↦ refused_rows e
  ]

  pub rows-step : (i : CallFrameInstruction ℕ) (rest : Instructions ℕ) (step : InstructionStep ℕ) → step_of (frame_of factors limits initial) start executed i ≡ step → Left start executed (Ok i ∷ rest) ≡ rows_by rest step
  rows-step i rest step is = ap (rows_by rest) is

-- ---- a call that goes on to the next row

-- What is known of some rows while a call executes the instructions of the first.
pub record Reached (limits : Limits) (columns : Columns) (factors : Factors) (end start : ℕ) (left : RowList ℕ) (state : PartsState) (rest : Instructions ℕ) : Type 0 where
  pub apart : AreApart columns
  pub initial : Rules
  pub executed : Effects
  pub follows : Follows columns initial state executed
  pub are : left ≡ rows_from (frame_of factors limits initial) end start executed rest

module _ (limits : Limits) (room : HasRoomForParts limits) (columns : Columns) (factors : Factors) (end start : ℕ) (left : RowList ℕ) (state : PartsState) (before : Instructions ℕ)
    (known : Reached limits columns factors end start left state before) where
  -- a write
  pub wrote : (after : Instructions ℕ) (new : PartsState) → ExecutesFirst columns factors start before after state new action.Writes → Reached limits columns factors end start left new after
  wrote after new first =
      let did = first.executes limits known.initial known.executed room known.follows in
      record {
        apart = known.apart;
        initial = known.initial;
        executed = did.0 ∷ known.executed;
        follows = did.2;
        are = known.are ∙ ap (rows_from (frame_of factors limits known.initial) end start known.executed) first.first
            ∙ rows-step factors limits known.initial end start known.executed first.instruction after (Writes did.0) did.1;
      }

  -- a move ends the row
  pub moved : {R E O : Type 0} (stretch : R → Stretch) (limit : ℕ) (after : Instructions ℕ) (new : PartsState) (to : ℕ) → ExecutesFirst columns factors start before after state new (action.Moves to)
      → (rows : PartsRows R E O) → rows.columns ≡ columns → rows.factors ≡ factors → rows.state ≡ new → rows.start_address ≡ start → rows.end_address ≡ to → rows.last_address ≡ end → rest_of stretch limit rows ≡ after
      → GoesOn stretch limit limits left rows
  moved stretch limit after new to first rows c f s from until last rest =
      let did = first.executes limits known.initial known.executed room known.follows in
      let row : Row ℕ = row_after known.initial start to known.executed in
      let others : RowList ℕ = rows_from (frame_of factors limits known.initial) end to known.executed after in
      record {
        row = row;
        others = others;
        first = known.are ∙ ap (rows_from (frame_of factors limits known.initial) end start known.executed) first.first
            ∙ rows-step factors limits known.initial end start known.executed first.instruction after (Moves to) did.0;
        is = record { start = from; end = until; parts = rw (c, s) (parts-kept columns known.apart known.initial start to known.executed new.current did.1.current) };
        rest = record {
          apart = subst AreApart (sym c) known.apart;
          initial = known.initial;
          executed = known.executed;
          follows = rw (c, s) did.1;
          are = rw (f, until, last, rest) refl;
        };
      }

  -- the end of the instructions ends the last
  pub ended : {R E O : Type 0} (new : PartsState) → before ≡ [] → new ≡ state
      → (rows : PartsRows R E O) → rows.columns ≡ columns → rows.state ≡ new → rows.start_address ≡ start → rows.end_address ≡ end → IsLast left rows
  ended new none same rows c s from until =
      let row : Row ℕ = row_after known.initial start end known.executed in
      record {
        row = row;
        first = known.are ∙ ap (rows_from (frame_of factors limits known.initial) end start known.executed) none;
        is = record { start = from; end = until; parts = rw (c, s, same) (parts-kept columns known.apart known.initial start end known.executed state.current known.follows.current) };
      }

-- ---- the first rows

pub has-all : {R E O : Type 0} (stretch : R → Stretch) (limit : ℕ) (limits : Limits) (columns : Columns) → AreApart columns → (program : FdeProgram R E O) (own : Instructions ℕ) (row : SimpleRow) (leaves : Leaves columns limits program.factors own row)
    → (state : PartsState) → Follows columns (rules_left leaves.executed) state leaves.executed
    → (rows : PartsRows R E O) → rows.columns ≡ columns → rows.factors ≡ program.factors → rows.state ≡ state → rows.end_address ≡ program.initial_address → rows.last_address ≡ program.end_address → rest_of stretch limit rows ≡ program.instructions
    → HasRows stretch limit limits rows (rows_of_program limits (program_with own program))
has-all stretch limit limits columns apart program own row leaves state follows rows c f s from last rest = record {
  apart = subst AreApart (sym c) apart;
  initial = rules_left leaves.executed;
  executed = leaves.executed;
  follows = rw (c, s) follows;
  are = rw (f, from, last, rest) (rows-start limits (program_with own program) leaves.executed leaves.are);
}

-- ---- the row for an address

-- None of the rows before those that are left contains the address.
pub record Passed {R E O : Type 0} (stretch : R → Stretch) (limit : ℕ) (limits : Limits) (address : ℕ) (all : RowList ℕ) (rows : PartsRows R E O) : Type 0 where
  pub others : RowList ℕ
  pub has : HasRows stretch limit limits rows others
  pub same : row_among address all ≡ row_among address others

-- none is before the first
pub passed-none : {R E O : Type 0} (stretch : R → Stretch) (limit : ℕ) (limits : Limits) (address : ℕ) (all : RowList ℕ) (rows : PartsRows R E O) → HasRows stretch limit limits rows all
    → Passed stretch limit limits address all rows
passed-none stretch limit limits address all rows has = record { others = all; has = has; same = refl }

-- the first row contains it
row-here : (address : ℕ) (row : Row ℕ) (others : RowList ℕ) → holds_at address row ≡ true → row_among address (row_before row others) ≡ Ok row
row-here address row others holds = rw holds refl

-- the first row doesn't
row-past : (address : ℕ) (row : Row ℕ) (others : RowList ℕ) → holds_at address row ≡ false → row_among address (row_before row others) ≡ row_among address others
row-past address row others past = rw past refl

module _ {R E O : Type 0} (stretch : R → Stretch) (limit : ℕ) (limits : Limits) (address : ℕ) (all : RowList ℕ) (before : PartsRows R E O) (known : Passed stretch limit limits address all before) (rows : PartsRows R E O) where
  holds-as : (row : Row ℕ) → IsAt rows row → (b : Bool) → b ≡ is_between rows.start_address rows.end_address address → holds_at address row ≡ b
  holds-as row at b is = rw (sym at.start, sym at.end) (sym is)

  -- the row that was gone on to contains it
  pub found-next : GoesOn stretch limit limits known.others rows → true ≡ is_between rows.start_address rows.end_address address → IsPartsAt rows.columns (row_among address all) (Found rows.state.current)
  found-next goes is =
      (goes.row, known.same ∙ ap (row_among address) goes.first ∙ row-here address goes.row goes.others (holds-as goes.row goes.is true is), goes.is.parts)

  -- the last row contains it
  pub found-last : IsLast known.others rows → true ≡ is_between rows.start_address rows.end_address address → IsPartsAt rows.columns (row_among address all) (Found rows.state.current)
  found-last last is =
      (last.row, known.same ∙ ap (row_among address) last.first ∙ row-here address last.row no_rows (holds-as last.row last.is true is), last.is.parts)

  -- the row that was gone on to doesn't
  pub passed-next : GoesOn stretch limit limits known.others rows → false ≡ is_between rows.start_address rows.end_address address → Passed stretch limit limits address all rows
  passed-next goes is = record {
    others = goes.others;
    has = goes.rest;
    same = known.same ∙ ap (row_among address) goes.first ∙ row-past address goes.row goes.others (holds-as goes.row goes.is false is);
  }

  -- the last row doesn't
  pub none-found : IsLast known.others rows → false ≡ is_between rows.start_address rows.end_address address → IsPartsAt rows.columns (row_among address all) Uncovered
  none-found last is =
      (NoUnwindInfoForAddress, known.same ∙ ap (row_among address) last.first ∙ row-past address last.row no_rows (holds-as last.row last.is false is))
