-- What the code has executed of a program, by the states of its context.
use Rattle.std.specs.Prelude.{◌≡◌, ◌≢◌, ◌⊎◌, ℕ, List, [], ◌∷◌, Option, Some, None, Result, Ok, Err}
use Rattle.dwarf_constants.specs.declared.error.Error.{Error}
use Rattle.dwarf_constants.specs.declared.error.Error.TheVariants.{OutOfMemory}
use Rattle.dwarf_readers.specs.Stretch.{Stretch}
use Rattle.dwarf_frame_rows.specs.declared.context.UnwindContext.{UnwindContext}
use Rattle.dwarf_frame_rows.specs.declared.effect.Effect.{Effect}
use Rattle.dwarf_frame_rows.specs.declared.effect.Effect.TheVariants.{Move}
use Rattle.dwarf_frame_rows.specs.declared.row.UnwindTableRow.{UnwindTableRow}
use Rattle.dwarf_frame_rows.specs.Contexts.{state_of}
use Rattle.dwarf_frame_rows.specs.Effects.{Limits, ContextState, state_after}
use Rattle.dwarf_frame_rows.specs.Row.{Row, row_of}
use Rattle.dwarf_frame_instructions.specs.declared.effects.Factors.{Factors}
use Rattle.dwarf_frame_instructions.specs.declared.instructions.CallFrameInstruction.{CallFrameInstruction}
use Rattle.dwarf_frame_instructions.specs.declared.instructions.Coding.{Coding}
use Rattle.dwarf_frame_instructions.specs.Effects.{effect_of}
use Rattle.dwarf_frame_instructions.specs.InstructionViews.{instruction_as, instructions_by}
use Rattle.dwarf_frame_instructions.specs.Programs.{Instructions, executed_by_cie, rules_left}
use Rattle.dwarf_frame_instructions.specs.Standing.{Stands}
use Rattle.dwarf_frame_instructions.specs.StateViews.{row_as, state_as}

-- ---- the code's values

-- the state of a context, the offsets of expressions as numbers
abbrev pub state_in : {T S L K : Type 0} → (T → ℕ) → (K → List (UnwindTableRow T L)) → UnwindContext T S L K → ContextState ℕ
state_in number items context = state_as number (state_of items context)

-- a row of the code, the offsets of expressions as numbers
abbrev pub row_in : {T L : Type 0} → (T → ℕ) → UnwindTableRow T L → Row ℕ
row_in number row = row_as number (row_of row)

-- The error is of the program, and not that memory ran out; in a storage that never allocates every error is.
abbrev pub IsRefusal : Type 0 → Error → Type 0
IsRefusal Fixed e = Fixed ⊎ (e ≢ OutOfMemory)

-- ---- one instruction

-- an instruction moves the location, or leaves this state, or fails
pub data StateStep : Type 0 where
  Goes : (location : ℕ) → StateStep
  Leaves : (state : ContextState ℕ) → StateStep
  Fails : (error : Error) → StateStep

-- the state that an effect leaves, or its error
abbrev pub left_by : Result (ContextState ℕ) Error → StateStep
left_by (Ok state) = Leaves state
left_by (Err e) = Fails e

-- what an effect does to a state, or the error of an instruction without one
abbrev pub state_step_by : Limits → ContextState ℕ → Result (Effect ℕ) Error → StateStep
state_step_by limits state (Ok (Move location)) = Goes location
state_step_by limits state (Ok effect) = left_by (state_after limits effect state)
state_step_by limits state (Err e) = Fails e

-- what an instruction does at this location to a state
abbrev pub state_step : Limits → Factors → ℕ → ContextState ℕ → CallFrameInstruction ℕ → StateStep
state_step limits factors location state i = state_step_by limits state (effect_of factors location i)

-- An instruction was executed as its step says: the location that it moves to, or another state, or the error.
abbrev pub Executes : Type 0 → ContextState ℕ → ContextState ℕ → StateStep → Result (Option ℕ) Error → Type 0
Executes Fixed old new step (Ok (Some next)) = (step ≡ Goes next) × (new ≡ old)
Executes Fixed old new step (Ok None) = step ≡ Leaves new
Executes Fixed old new step (Err e) = IsRefusal Fixed e → step ≡ Fails e

module _ {T S L K : Type 0} (number : T → ℕ) (items : K → List (UnwindTableRow T L)) (limits : Limits) (Fixed : Type 0) where
  -- An instruction was executed at this location in a context.
  abbrev pub StepsIn : Factors → ℕ → CallFrameInstruction T → UnwindContext T S L K → UnwindContext T S L K → Result (Option ℕ) Error
      → Type 0
  StepsIn factors location i old new result =
      Executes Fixed (state_in number items old) (state_in number items new)
      (state_step limits factors location (state_in number items old) (instruction_as number i)) result

-- ---- a prefix

-- the result of instructions up to the first that moves: the location that it moves to, or their end, or an error
pub data Prefix : Type 0 where
  Moved : (location : ℕ) (state : ContextState ℕ) (rest : Instructions ℕ) → Prefix
  Ended : (state : ContextState ℕ) → Prefix
  Faulty : (error : Error) → Prefix

-- the result of instructions from a location and a state on
abbrev pub prefix_from : Limits → Factors → ℕ → ContextState ℕ → Instructions ℕ → Prefix
prefix_from limits factors location state [] = Ended state
prefix_from limits factors location state (Err e ∷ rest) = Faulty e
prefix_from limits factors location state (Ok i ∷ rest) =
    elim (state_step limits factors location state i) [
      | Goes next ↦ Moved next state rest
      | Leaves other ↦ prefix_from limits factors location other rest
      | Fails e ↦ Faulty e
    ]

-- Instructions were executed up to their first move, or to their end, or one failed; this state and these instructions are left.
abbrev pub Runs : Type 0 → ContextState ℕ → Instructions ℕ → Prefix → Result (Option ℕ) Error → Type 0
Runs Fixed state rest prefix (Ok (Some next)) = prefix ≡ Moved next state rest
Runs Fixed state rest prefix (Ok None) = prefix ≡ Ended state
Runs Fixed state rest prefix (Err e) = IsRefusal Fixed e → prefix ≡ Faulty e

-- The CIE's instructions were executed, and its rules are kept; or one failed.
abbrev pub Starts : Type 0 → ContextState ℕ → Result (List (Effect ℕ)) Error → Result (Unit {0}) Error → Type 0
Starts Fixed new left (Ok _) =
    (executed : List (Effect ℕ)) × (left ≡ Ok executed) × (new.initial_rules ≡ Some (rules_left executed)) × Stands new executed
Starts Fixed new left (Err e) = IsRefusal Fixed e → left ≡ Err e

module _ {R S O L K : Type 0} (stretch : R → Stretch) (limit : ℕ) (number : O → ℕ) (items : K → List (UnwindTableRow O L))
    (limits : Limits) (Fixed : Type 0) where
  -- The instructions of a reader were executed in a context from a location on, as `Runs` says of their prefix.
  abbrev pub RunsIn : Factors → ℕ → Coding R → UnwindContext O S L K → R → Result (Option ℕ) Error → UnwindContext O S L K → R → Type 0
  RunsIn factors location coding context input result now rest =
      let left = instructions_by stretch limit coding in
      Runs Fixed (state_in number items now) (left rest)
      (prefix_from limits factors location (state_in number items context) (left input)) result

  -- The CIE's instructions, those of a reader, were executed in a context, as `Starts` says of it.
  abbrev pub StartsIn : Factors → Coding R → R → UnwindContext O S L K → Result (Unit {0}) Error → Type 0
  StartsIn factors coding input now result =
      Starts Fixed (state_in number items now) (executed_by_cie limits factors (instructions_by stretch limit coding input)) result
