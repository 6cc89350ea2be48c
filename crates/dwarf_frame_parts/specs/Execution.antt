-- Execution without a context.
use Rattle.std.specs.Prelude.{◌≡◌, ℕ, [], ◌∷◌, Option, Some, None, Ok}
use Rattle.dwarf_frame_rows.specs.declared.effect.Effect.{Effect}
use Rattle.dwarf_frame_rows.specs.Effects.{Limits}
use Rattle.dwarf_frame_instructions.specs.declared.effects.Factors.{Factors}
use Rattle.dwarf_frame_instructions.specs.declared.instructions.CallFrameInstruction.{CallFrameInstruction}
use Rattle.dwarf_frame_instructions.specs.InstructionViews.{instruction_as}
use Rattle.dwarf_frame_instructions.specs.Programs.{InstructionContext, InstructionStep, Instructions, Moves, Writes, executed_by_cie, rules_left, step_of}
use Rattle.dwarf_frame_instructions.specs.Survivors.{open_states, survivors}
use Rattle.dwarf_frame_parts.specs.declared.execution.Action.{Action}
use Rattle.dwarf_frame_parts.specs.declared.execution.Action.TheVariants as action
use Rattle.dwarf_frame_parts.specs.declared.left.LeftByCie.{LeftByCie}
use Rattle.dwarf_frame_parts.specs.declared.parts_state.PartsState.{PartsState}
use Rattle.dwarf_frame_parts.specs.declared.simple_row.Columns.{Columns}
use Rattle.dwarf_frame_parts.specs.declared.simple_row.SimpleRow.{SimpleRow}
use Rattle.dwarf_frame_parts.specs.PartsStates.{AreApart, Effects, Follows, HasRoomForParts, Keeps, Rules}

-- the context of an FDE's own instructions
abbrev pub frame_of : Factors → Limits → Rules → InstructionContext ℕ
frame_of factors limits initial = record { factors = factors; limits = limits; initial_rules = Some initial }

module _ (columns : Columns) where
  -- What an instruction does was done without a context, or given up.
  abbrev pub ActsAs : Rules → InstructionStep ℕ → Effects → PartsState → Action → Type 0
  ActsAs initial step executed new (action.Moves location) = (step ≡ Moves location) × Follows columns initial new executed
  ActsAs initial step executed new action.Writes =
      (effect : Effect ℕ) × (step ≡ Writes effect) × Follows columns initial new (effect ∷ executed)
  ActsAs initial step executed new action.GivesUp = Unit {0}

  -- .. in any context
  abbrev pub Executes : Factors → (location : ℕ) → CallFrameInstruction ℕ → PartsState → PartsState → Action → Type 0
  Executes factors location i old new action = (limits : Limits) (initial : Rules) (executed : Effects)
      → HasRoomForParts limits → Follows columns initial old executed
      → ActsAs initial (step_of (frame_of factors limits initial) location executed i) executed new action

  -- The first of some instructions was executed, and the others are left.
  pub record ExecutesFirst (factors : Factors) (location : ℕ) (before after : Instructions ℕ) (old new : PartsState) (done : Action) : Type 0 where
    pub instruction : CallFrameInstruction ℕ
    pub first : before ≡ Ok instruction ∷ after
    pub executes : Executes factors location instruction old new done

  -- .. or none was left, and nothing done; or one was given up
  abbrev pub ExecutesNext : Factors → (location : ℕ) → (before after : Instructions ℕ) → PartsState → PartsState → Option Action → Type 0
  ExecutesNext factors location before after old new None = (before ≡ []) × (new ≡ old)
  ExecutesNext factors location before after old new (Some action.GivesUp) = Unit {0}
  ExecutesNext factors location before after old new (Some (action.Moves to)) = ExecutesFirst factors location before after old new (action.Moves to)
  ExecutesNext factors location before after old new (Some action.Writes) = ExecutesFirst factors location before after old new action.Writes

  -- ---- a CIE's own instructions

  -- One of a CIE's own instructions was executed as in any context.
  abbrev pub Sets : {T : Type 0} → (T → ℕ) → Factors → CallFrameInstruction T → SimpleRow → SimpleRow → Type 0
  Sets number factors i old new = (limits : Limits) (executed : Effects) → HasRoomForParts limits → open_states executed ≡ 0
      → ((initial : Rules) → Keeps columns initial old (survivors 0 executed))
      → (effect : Effect ℕ)
      × (step_of (record { factors = factors; limits = limits; initial_rules = None }) 0 executed (instruction_as number i) ≡ Writes effect)
      × (open_states (effect ∷ executed) ≡ 0)
      × ((initial : Rules) → Keeps columns initial new (survivors 0 (effect ∷ executed)))

  -- A CIE's own instructions leave a row, within these limits.
  pub record Leaves (limits : Limits) (factors : Factors) (instructions : Instructions ℕ) (row : SimpleRow) : Type 0 where
    pub executed : Effects
    pub are : executed_by_cie limits factors instructions ≡ Ok executed
    pub none_open : open_states executed ≡ 0
    pub keeps : (initial : Rules) → Keeps columns initial row (survivors 0 executed)

  -- .. within any that have room for it
  abbrev pub AreLeftBy : Factors → Instructions ℕ → LeftByCie → Type 0
  AreLeftBy factors instructions left = (limits : Limits) → HasRoomForParts limits → Leaves limits factors instructions left.row

-- The state is that after a CIE's own instructions, which leave a row.
abbrev pub StartsFrom : SimpleRow → PartsState → Type 0
StartsFrom row state = (columns : Columns) (limits : Limits) (factors : Factors) (instructions : Instructions ℕ)
    → (left : Leaves columns limits factors instructions row) → AreApart columns
    → Follows columns (rules_left left.executed) state left.executed
