-- The rows that a program of call frame instructions makes (DWARF 5, 6.4.1 to 6.4.3). The program is the CIE's own instructions,
-- and then the FDE's.
use Rattle.std.specs.Prelude.{◌≡◌, ℕ, ◌≤◌, ◌<◌, length, List, [], ◌∷◌, Option, Some, None, unwrap_or, Result, Ok, Err}
use Rattle.std.specs.FinMap.{empty}
use Rattle.std.specs.List.{filter, find}
use Rattle.dwarf_constants.specs.declared.error.Error.{Error}
use Rattle.dwarf_constants.specs.declared.error.Error.TheVariants.{NoUnwindInfoForAddress}
use Rattle.dwarf_readers.specs.Stretch.{◌>>=◌}
use Rattle.dwarf_frame_rows.specs.declared.effect.Effect.{Effect}
use Rattle.dwarf_frame_rows.specs.declared.effect.Effect.TheVariants.{Move}
use Rattle.dwarf_frame_rows.specs.declared.rules.RegisterRule.{RegisterRule}
use Rattle.dwarf_frame_rows.specs.Effects.{Limits}
use Rattle.dwarf_frame_rows.specs.Row.{Row, holds_at}
use Rattle.dwarf_frame_rows.specs.RuleMap.{RuleMap}
use Rattle.dwarf_frame_instructions.specs.declared.effects.Factors.{Factors}
use Rattle.dwarf_frame_instructions.specs.declared.instructions.CallFrameInstruction.{CallFrameInstruction}
use Rattle.dwarf_frame_instructions.specs.Effects.{effect_of}
use Rattle.dwarf_frame_instructions.specs.Parts.{RowParts, surviving_parts, surviving_rules}
use Rattle.dwarf_frame_instructions.specs.Refusals.{InitialRules, needs, needs_room_for_rows, row_count, rules_or_none}
use Rattle.dwarf_frame_instructions.specs.Survivors.{survivors}

-- instructions in their order, up to the first that cannot be read, whose error is the last
abbrev pub Instructions : Type 0 → Type 0
Instructions T = List (Result (CallFrameInstruction T) Error)

-- a program: its factors, the range of its code, the CIE's instructions and the FDE's
pub record EntryProgram (T : Type 0) : Type 0 where
  pub factors : Factors
  pub initial_address : ℕ
  pub end_address : ℕ
  pub initial_instructions : Instructions T
  pub instructions : Instructions T

-- what is the same for all instructions of an entry: the factors, the limits, and the rules that the CIE's own instructions left
pub record InstructionContext (T : Type 0) : Type 0 where
  pub factors : Factors
  pub limits : Limits
  pub initial_rules : InitialRules T

-- ---- one instruction

-- an instruction moves the location, or writes to the row, or fails
pub data InstructionStep (T : Type 0) : Type 0 where
  Moves : (location : ℕ) → InstructionStep T
  Writes : (effect : Effect T) → InstructionStep T
  Refused : (error : Error) → InstructionStep T

-- a write, unless it fails
abbrev pub written : {T : Type 0} → Effect T → Result (Unit {0}) Error → InstructionStep T
written effect (Ok _) = Writes effect
written effect (Err e) = Refused e

-- the location that an effect moves to, if it does
abbrev pub destination_of : {T : Type 0} → Effect T → Option ℕ
destination_of (Move location) = Some location
destination_of _ = None

-- what an effect does after those that were executed
abbrev pub step_by : {T : Type 0} → InstructionContext T → List (Effect T) → Effect T → InstructionStep T
step_by frame executed (Move location) = Moves location
step_by frame executed effect = written effect (needs frame.limits frame.initial_rules executed effect)

-- an effect, unless the instruction has none
abbrev pub step_from : {T : Type 0} → InstructionContext T → List (Effect T) → Result (Effect T) Error → InstructionStep T
step_from frame executed (Ok effect) = step_by frame executed effect
step_from frame executed (Err e) = Refused e

-- what an instruction does at this location, after the effects that were executed
abbrev pub step_of : {T : Type 0} → InstructionContext T → ℕ → List (Effect T) → CallFrameInstruction T → InstructionStep T
step_of frame location executed i = step_from frame executed (effect_of frame.factors location i)

-- ---- the CIE's own instructions

-- the effects that they execute; they move a location of their own, and their moves are dropped
abbrev pub executed_from : {T : Type 0} → InstructionContext T → ℕ → List (Effect T) → Instructions T
    → Result (List (Effect T)) Error
executed_from frame location executed [] = Ok executed
executed_from frame location executed (Err e ∷ rest) = Err e
executed_from frame location executed (Ok i ∷ rest) =
    elim (step_of frame location executed i) [
      | Moves next ↦ executed_from frame next executed rest
      | Writes effect ↦ executed_from frame location (effect ∷ executed) rest
      | Refused e ↦ Err e
    ]

-- the rules that effects leave in the CIE
abbrev pub rules_left : {T : Type 0} → List (Effect T) → RuleMap (RegisterRule T)
rules_left executed = surviving_rules empty (survivors 0 executed)

-- the effects of the CIE, if there is room for its rules beside the open states
abbrev pub with_room : {T : Type 0} → Limits → List (Effect T) → Result (List (Effect T)) Error
with_room limits executed = do
  _ ← needs_room_for_rows limits (row_count (Some (rules_left executed)) executed)
  Ok executed

-- the effects of the CIE's instructions, before the FDE's
abbrev pub executed_by_cie : {T : Type 0} → Limits → Factors → Instructions T → Result (List (Effect T)) Error
executed_by_cie limits factors instructions =
    executed_from (record { factors = factors; limits = limits; initial_rules = None }) 0 [] instructions >>= with_room limits

-- ---- the rows

-- the rows of a program, and the error that ends them, if one does
pub record RowList (T : Type 0) : Type 0 where
  pub rows : List (Row T)
  pub refusal : Option Error

-- no further rows, but an error
abbrev pub refused_rows : {T : Type 0} → Error → RowList T
refused_rows e = record { rows = []; refusal = Some e }

-- no further rows
abbrev pub no_rows : {T : Type 0} → RowList T
no_rows = record { rows = []; refusal = None }

-- a row and then others
abbrev pub row_before : {T : Type 0} → Row T → RowList T → RowList T
row_before row others = record { rows = row ∷ others.rows; refusal = others.refusal }

-- a row of these parts
abbrev pub row_with : {T : Type 0} → ℕ → ℕ → RowParts T → Row T
row_with start end parts =
    record { start = start; end = end; saved_args_size = parts.saved_args_size; cfa = parts.cfa; rules = parts.rules }

-- the row from a start to an end, after the effects that were executed
abbrev pub row_after : {T : Type 0} → RuleMap (RegisterRule T) → ℕ → ℕ → List (Effect T) → Row T
row_after initial start end executed = row_with start end (surviving_parts initial (survivors 0 executed))

-- the rows from a start on: each move ends one, and the end of the program ends the last at the end of the code
abbrev pub rows_from : {T : Type 0} → InstructionContext T → ℕ → ℕ → List (Effect T) → Instructions T → RowList T
rows_from frame end start executed [] = row_before (row_after (rules_or_none frame.initial_rules) start end executed) no_rows
rows_from frame end start executed (Err e ∷ rest) = refused_rows e
rows_from frame end start executed (Ok i ∷ rest) =
    elim (step_of frame start executed i) [
      | Moves location ↦
          row_before (row_after (rules_or_none frame.initial_rules) start location executed) (rows_from frame end location executed rest)
      | Writes effect ↦ rows_from frame end start (effect ∷ executed) rest
      | Refused e ↦ refused_rows e
    ]

-- the rows of the FDE's instructions, after the effects of the CIE's
abbrev pub rows_after_cie : {T : Type 0} → Limits → EntryProgram T → Result (List (Effect T)) Error → RowList T
rows_after_cie limits program (Ok executed) =
    rows_from (record { factors = program.factors; limits = limits; initial_rules = Some (rules_left executed) })
    program.end_address program.initial_address executed program.instructions
rows_after_cie limits program (Err e) = refused_rows e

-- the effects of a program's CIE, or why the program has no rows
abbrev pub effects_of_cie : {T : Type 0} → Limits → EntryProgram T → Result (List (Effect T)) Error
effects_of_cie limits program = executed_by_cie limits program.factors program.initial_instructions

-- the rows of a program
abbrev pub rows_of_program : {T : Type 0} → Limits → EntryProgram T → RowList T
rows_of_program limits program = rows_after_cie limits program (effects_of_cie limits program)

-- No error ends the rows of a program.
abbrev pub IsComplete : {T : Type 0} → Limits → EntryProgram T → Type 0
IsComplete limits program = (rows_of_program limits program).refusal ≡ None

-- the rows of a program that contain an address
abbrev pub rows_at : {T : Type 0} → Limits → EntryProgram T → ℕ → List (Row T)
rows_at limits program address = filter (holds_at address) (rows_of_program limits program).rows

-- If no error ends the rows of a program, an address of its code is in exactly one of them.
abbrev pub IsInOneRow : {T : Type 0} → Limits → EntryProgram T → ℕ → Type 0
IsInOneRow limits program address =
    IsComplete limits program → program.initial_address ≤ address → address < program.end_address
    → length (rows_at limits program address) ≡ 1

-- the row that was found, or why there is none
abbrev pub found_or : {T : Type 0} → Option Error → Option (Row T) → Result (Row T) Error
found_or refusal (Some row) = Ok row
found_or refusal None = Err (unwrap_or refusal NoUnwindInfoForAddress)

-- the row for an address: the first that contains it, or the error that ends the rows
abbrev pub row_among : {T : Type 0} → ℕ → RowList T → Result (Row T) Error
row_among address left = found_or left.refusal (find (holds_at address) left.rows)

-- a program's row for an address: the first that contains it, or the error that ends the rows
abbrev pub row_for : {T : Type 0} → Limits → EntryProgram T → ℕ → Result (Row T) Error
row_for limits program address = row_among address (rows_of_program limits program)
