-- The rows that a program has left, by their parts.
use Rattle.std.specs.Prelude.{◌≡◌, ◌&&◌, ℕ, Bool, length, nat_le, nat_lt}
use Rattle.dwarf_readers.specs.Stretch.{Stretch}
use Rattle.dwarf_frame_rows.specs.Effects.{Limits}
use Rattle.dwarf_frame_rows.specs.Row.{Row}
use Rattle.dwarf_frame_instructions.specs.InstructionViews.{instructions_by}
use Rattle.dwarf_frame_instructions.specs.Programs.{EntryProgram, Instructions, RowList, no_rows, row_among, row_before, rows_from, rows_of_program}
use Rattle.dwarf_frame_parts.specs.declared.parts_rows.Advance.{Advance}
use Rattle.dwarf_frame_parts.specs.declared.parts_rows.Advance.TheVariants as advance
use Rattle.dwarf_frame_parts.specs.declared.left.LeftByCie.{LeftByCie}
use Rattle.dwarf_frame_parts.specs.declared.parts_rows.FdeProgram.{FdeProgram}
use Rattle.dwarf_frame_parts.specs.declared.parts_rows.PartsAt.{PartsAt}
use Rattle.dwarf_frame_parts.specs.declared.parts_rows.PartsRows.{PartsRows}
use Rattle.dwarf_frame_parts.specs.declared.simple_row.Columns.{Columns}
use Rattle.dwarf_frame_parts.specs.declared.simple_row.SimpleRow.{SimpleRow}
use Rattle.dwarf_frame_parts.specs.Answers.{IsPartsAt}
use Rattle.dwarf_frame_parts.specs.Execution.{AreLeftBy, frame_of}
use Rattle.dwarf_frame_parts.specs.PartsStates.{AreApart, Effects, Follows, HasRoomForParts, Rules}
use Rattle.dwarf_frame_parts.specs.RowParts.{parts_of}
use Rattle.dwarf_frame_parts.specs.SimpleRows.{parts_shown}

-- a program, by the CIE's own instructions and what is the FDE's
abbrev pub program_with : {R E O : Type 0} → Instructions ℕ → FdeProgram R E O → EntryProgram ℕ
program_with own program = record {
  factors = program.factors;
  initial_address = program.initial_address;
  end_address = program.end_address;
  initial_instructions = own;
  instructions = program.instructions;
}

-- the registers whose rules are kept
abbrev pub columns_of : {R E O : Type 0} → PartsRows R E O → Columns
columns_of rows = rows.columns

-- the current row, and where it ends
abbrev pub current_row : {R E O : Type 0} → PartsRows R E O → SimpleRow
current_row rows = rows.state.current

abbrev pub current_end : {R E O : Type 0} → PartsRows R E O → ℕ
current_end rows = rows.end_address

-- an address is from a start to before an end
abbrev pub is_between : (start end address : ℕ) → Bool
is_between start end address = nat_le start address && nat_lt address end

module _ {R E O : Type 0} (stretch : R → Stretch) (limit : ℕ) where
  -- the instructions that are left
  abbrev pub rest_of : PartsRows R E O → Instructions ℕ
  rest_of rows = instructions_by stretch limit rows.coding rows.input

  -- how many they are
  abbrev pub instructions_left : PartsRows R E O → ℕ
  instructions_left rows = length (rest_of rows)

-- The current row is this one, by its bounds and its parts.
pub record IsAt {R E O : Type 0} (rows : PartsRows R E O) (row : Row ℕ) : Type 0 where
  pub start : rows.start_address ≡ row.start
  pub end : rows.end_address ≡ row.end
  pub parts : parts_of rows.columns.fp rows.columns.ra row ≡ parts_shown rows.state.current

-- The only row that is left is the current one.
pub record IsLast {R E O : Type 0} (left : RowList ℕ) (rows : PartsRows R E O) : Type 0 where
  pub row : Row ℕ
  pub first : left ≡ row_before row no_rows
  pub is : IsAt rows row

module _ {R E O : Type 0} (stretch : R → Stretch) (limit : ℕ) (limits : Limits) where
  -- These rows are left.
  pub record HasRows (rows : PartsRows R E O) (left : RowList ℕ) : Type 0 where
    pub apart : AreApart rows.columns
    pub initial : Rules
    pub executed : Effects
    pub follows : Follows rows.columns initial rows.state executed
    pub are : left ≡ rows_from (frame_of rows.factors limits initial) rows.last_address rows.end_address executed (rest_of stretch limit rows)

  -- The first of some rows is the current one, and the others are left.
  pub record GoesOn (left : RowList ℕ) (rows : PartsRows R E O) : Type 0 where
    pub row : Row ℕ
    pub others : RowList ℕ
    pub first : left ≡ row_before row others
    pub is : IsAt rows row
    pub rest : HasRows rows others

  -- A call went on to the first of the rows that were left.
  abbrev pub Advances : RowList ℕ → PartsRows R E O → Advance → Type 0
  Advances left rows advance.Row = GoesOn left rows
  Advances left rows advance.LastRow = IsLast left rows
  Advances left rows advance.GivesUp = Unit {0}

module _ {R E O : Type 0} (stretch : R → Stretch) (limit : ℕ) where
  -- All rows of a program are left, if its CIE's own instructions leave this.
  abbrev pub HasAllRows : Columns → LeftByCie → FdeProgram R E O → PartsRows R E O → Type 0
  HasAllRows columns left program rows = (limits : Limits) (own : Instructions ℕ) → HasRoomForParts limits
      → AreLeftBy columns program.factors own left → HasRows stretch limit limits rows (rows_of_program limits (program_with own program))

  -- A call went on to the first of the rows that were left, whichever they are.
  abbrev pub AdvancesFrom : PartsRows R E O → PartsRows R E O → Advance → Type 0
  AdvancesFrom old new result = (limits : Limits) (left : RowList ℕ) → HasRoomForParts limits → HasRows stretch limit limits old left
      → Advances stretch limit limits left new result

  -- These are the parts of the first of the rows that are left that contains an address.
  abbrev pub FindsAt : PartsRows R E O → (address : ℕ) → PartsAt → Type 0
  FindsAt rows address result = (limits : Limits) (left : RowList ℕ) → HasRoomForParts limits → HasRows stretch limit limits rows left
      → IsPartsAt rows.columns (row_among address left) result
