-- What the code executes, by the steps of the definition.
use Rattle.std.proofs.Common.{inl, inr, ◌≡◌, ℕ, Bool, true, false, cond, List, [], ◌∷◌, Option, Some, None, option_map, Result, Ok, Err, IfErr, refl, sym, ap, subst, ◌∙◌}
use Rattle.std.specs.Prelude.{◌≢◌, ◌+◌, ◌*◌, ◌%◌, ◌^◌, nat_lt, unwrap_or}
use Rattle.std.specs.FinMap.{empty}
use Rattle.dwarf_readers.specs.Stretch.{◌>>=◌}
use Rattle.dwarf_constants.specs.declared.error.Error.{Error}
use Rattle.dwarf_constants.specs.declared.error.Error.TheVariants.{AddressOverflow, InvalidCfiSetLoc, NoUnwindInfoForAddress, OutOfMemory}
use Rattle.dwarf_frame_rows.specs.declared.effect.Effect.{Effect}
use Rattle.dwarf_frame_rows.specs.declared.effect.Effect.TheVariants.{Move, Cfa, CfaRegister, CfaOffset, Rule, RestoreRule, NegateRaState, ArgsSize, Remember, Restore, Nothing}
use Rattle.dwarf_frame_rows.specs.Contexts.{Acts}
use Rattle.dwarf_frame_rows.specs.Effects.{Limits, ContextState, first_state, state_after, state_with_initial_rules, with_bounds}
use Rattle.dwarf_frame_instructions.specs.declared.effects.Factors.{Factors}
use Rattle.dwarf_frame_instructions.specs.declared.instructions.CallFrameInstruction.{CallFrameInstruction}
use Rattle.dwarf_frame_instructions.specs.declared.instructions.CallFrameInstruction.TheVariants as instruction
use Rattle.dwarf_frame_instructions.specs.Effects.{address_limit, effect_of}
use Rattle.dwarf_frame_instructions.specs.Execution.{Executes, Goes, Leaves, Fails, Prefix, StateStep, left_by, row_in, Moved, Ended, Faulty, IsRefusal, Runs, Starts, prefix_from, state_step, state_step_by}
use Rattle.dwarf_frame_instructions.specs.InstructionViews.{answer_as, instruction_as}
use Rattle.dwarf_frame_instructions.specs.Programs.{EntryProgram, InstructionContext, found_or, row_among, Instructions, RowList, InstructionStep, Moves, Writes, Refused, destination_of, effects_of_cie, executed_from, executed_by_cie, refused_rows, no_rows, row_after, row_with, rows_after_cie, rows_from, rows_of_program, step_from, step_of, with_room, row_before, written}
use Rattle.dwarf_frame_instructions.specs.ProgramRows.{Advances, after_first, current_row, end_of_rows, first_of, instructions_left, rows_left, rows_of_state, rows_state}
use Rattle.dwarf_frame_instructions.specs.Refusals.{InitialRules, needs}
use Rattle.dwarf_frame_instructions.specs.declared.rows.ProgramRows.{ProgramRows}
use Rattle.dwarf_frame_rows.specs.declared.row.UnwindTableRow.{UnwindTableRow}
use Rattle.dwarf_frame_rows.specs.Row.{Row, holds_at}
use Rattle.std.specs.Borrow.{Bor}
use Rattle.std.specs.List.{find}
use Rattle.dwarf_readers.specs.Stretch.{Stretch}
use Rattle.dwarf_frame_instructions.specs.Standing.{Stands}
use Rattle.dwarf_frame_instructions.specs.StateViews.{effect_as, state_as}
use Rattle.dwarf_frame_instructions.proofs.Standing.{Comes, Saves, first_stands, row_parts, saves, steps}
use Rattle.dwarf_frame_instructions.proofs.Views.{effect_acts_as, first_as, saving_as}

-- ---- effects

module _ {T : Type 0} (number : T → ℕ) where
  set_as : (b : Bool) (e : Error) (location : ℕ) → cond b (Err e) (Ok (Move location)) ≡ answer_as (effect_as number) (cond b (Err e) (Ok (Move location)))
  set_as true e location = refl
  set_as false e location = refl

  go_as : (b : Bool) (e : Error) (location : ℕ) → cond b (Ok (Move location)) (Err e) ≡ answer_as (effect_as number) (cond b (Ok (Move location)) (Err e))
  go_as true e location = refl
  go_as false e location = refl

  -- the effect of an instruction
  pub effect_of-as : (factors : Factors) (location : ℕ) (i : CallFrameInstruction T) → effect_of factors location (instruction_as number i) ≡ answer_as (effect_as number) (effect_of factors location i)
  effect_of-as factors location (instruction.SetLoc address) = set_as (nat_lt address location) (InvalidCfiSetLoc address) address
  effect_of-as factors location (instruction.AdvanceLoc delta) =
      go_as (nat_lt (location + (delta * factors.code_alignment_factor) % 2 ^ 64) (address_limit factors.address_size)) AddressOverflow (location + (delta * factors.code_alignment_factor) % 2 ^ 64)
  effect_of-as factors location (instruction.DefCfa register offset) = refl
  effect_of-as factors location (instruction.DefCfaSf register factored) = refl
  effect_of-as factors location (instruction.DefCfaRegister register) = refl
  effect_of-as factors location (instruction.DefCfaOffset offset) = refl
  effect_of-as factors location (instruction.DefCfaOffsetSf factored) = refl
  effect_of-as factors location (instruction.DefCfaExpression expression) = refl
  effect_of-as factors location (instruction.Undefined register) = refl
  effect_of-as factors location (instruction.SameValue register) = refl
  effect_of-as factors location (instruction.Offset register factored) = refl
  effect_of-as factors location (instruction.OffsetExtendedSf register factored) = refl
  effect_of-as factors location (instruction.ValOffset register factored) = refl
  effect_of-as factors location (instruction.ValOffsetSf register factored) = refl
  effect_of-as factors location (instruction.Register register source) = refl
  effect_of-as factors location (instruction.Expression register expression) = refl
  effect_of-as factors location (instruction.ValExpression register expression) = refl
  effect_of-as factors location (instruction.Restore register) = refl
  effect_of-as factors location instruction.RememberState = refl
  effect_of-as factors location instruction.RestoreState = refl
  effect_of-as factors location (instruction.ArgsSize size) = refl
  effect_of-as factors location instruction.NegateRaState = refl
  effect_of-as factors location instruction.Nop = refl

  destination-as : (e : Effect T) → destination_of (effect_as number e) ≡ destination_of e
  destination-as (Move location) = refl
  destination-as (Cfa rule) = refl
  destination-as (CfaRegister register) = refl
  destination-as (CfaOffset offset) = refl
  destination-as (Rule register rule) = refl
  destination-as (RestoreRule register) = refl
  destination-as NegateRaState = refl
  destination-as (ArgsSize size) = refl
  destination-as Remember = refl
  destination-as Restore = refl
  destination-as Nothing = refl

-- an effect with a destination is a move to it
a_move : {T : Type 0} (e : Effect T) (next : ℕ) → Some next ≡ destination_of e → e ≡ Move next
a_move (Move location) next is = let same : next ≡ location = cc in ap Move (sym same)
a_move (Cfa rule) next is = cc
a_move (CfaRegister register) next is = cc
a_move (CfaOffset offset) next is = cc
a_move (Rule register rule) next is = cc
a_move (RestoreRule register) next is = cc
a_move NegateRaState next is = cc
a_move (ArgsSize size) next is = cc
a_move Remember next is = cc
a_move Restore next is = cc
a_move Nothing next is = cc

-- an effect that doesn't move leaves what it makes of a state
step_by-left : (limits : Limits) (state : ContextState ℕ) (e : Effect ℕ) → destination_of e ≡ None → state_step_by limits state (Ok e) ≡ left_by (state_after limits e state)
step_by-left limits state (Move location) still = cc
step_by-left limits state (Cfa rule) still = refl
step_by-left limits state (CfaRegister register) still = refl
step_by-left limits state (CfaOffset offset) still = refl
step_by-left limits state (Rule register rule) still = refl
step_by-left limits state (RestoreRule register) still = refl
step_by-left limits state NegateRaState still = refl
step_by-left limits state (ArgsSize size) still = refl
step_by-left limits state Remember still = refl
step_by-left limits state Restore still = refl
step_by-left limits state Nothing still = refl

module _ {T : Type 0} (number : T → ℕ) (Fixed : Type 0) (limits : Limits) (factors : Factors) (location : ℕ) (i : CallFrameInstruction T) (s : ContextState T) where
  abbrev step : StateStep
  step = state_step limits factors location (state_as number s) (instruction_as number i)

  -- the step, by the effect
  stepped : (answer : Result (Effect T) Error) → effect_of factors location i ≡ answer → step ≡ state_step_by limits (state_as number s) (answer_as (effect_as number) answer)
  stepped answer is = ap (state_step_by limits (state_as number s)) (effect_of-as number factors location i ∙ ap (answer_as (effect_as number)) is)

  -- an instruction without an effect
  pub executes_none : (e : Error) → effect_of factors location i ≡ Err e → (new : ContextState T) → Executes Fixed (state_as number s) (state_as number new) step (Err e)
  executes_none e is new = λ _. stepped (Err e) is

  pub executes_move : (effect : Effect T) (next : ℕ) → Ok effect ≡ effect_of factors location i → Some next ≡ destination_of effect → Executes Fixed (state_as number s) (state_as number s) step (Ok (Some next))
  executes_move effect next is moves = (stepped (Ok (Move next)) (sym is ∙ ap (λ e. Ok e) (a_move effect next moves)), refl)

  -- an effect that was applied, or failed
  module _ (effect : Effect T) (is : Ok effect ≡ effect_of factors location i) (stays : None ≡ destination_of effect) where
    left : (answer : Result (ContextState T) Error) → state_after limits effect s ≡ answer → step ≡ left_by (answer_as (state_as number) answer)
    left answer e =
        stepped (Ok effect) (sym is) ∙ step_by-left limits (state_as number s) (effect_as number effect) (destination-as number effect ∙ sym stays)
        ∙ ap left_by (effect_acts_as number limits effect s ∙ ap (answer_as (state_as number)) e)

    pub executes_effect : (new : ContextState T) → state_after limits effect s ≡ Ok new → Executes Fixed (state_as number s) (state_as number new) step (Ok None)
    executes_effect new e = left (Ok new) e

    pub executes_refused : (new : ContextState T) (e : Error) → (e ≢ OutOfMemory → state_after limits effect s ≡ Err e) → (Fixed → e ≢ OutOfMemory) → Executes Fixed (state_as number s) (state_as number new) step (Err e)
    executes_refused new e refused memory = told
      where
        told : IsRefusal Fixed e → step ≡ Fails e
        told (inl fixed) = left (Err e) (refused (memory fixed))
        told (inr other) = left (Err e) (refused other)

-- ---- prefixes

-- what a step makes of a prefix
prefix_by : Limits → Factors → ℕ → ContextState ℕ → Instructions ℕ → StateStep → Prefix
prefix_by limits factors location state rest (Goes next) = Moved next state rest
prefix_by limits factors location state rest (Leaves other) = prefix_from limits factors location other rest
prefix_by limits factors location state rest (Fails e) = Faulty e

prefix-step : (limits : Limits) (factors : Factors) (location : ℕ) (state : ContextState ℕ) (i : CallFrameInstruction ℕ) (rest : Instructions ℕ) (step : StateStep)
    → state_step limits factors location state i ≡ step → prefix_from limits factors location state (Ok i ∷ rest) ≡ prefix_by limits factors location state rest step
unfolding prefix_by
prefix-step limits factors location state i rest step is =
    ap (λ (x : StateStep). elim x [ Goes next ↦ Moved next state rest | Leaves other ↦ prefix_from limits factors location other rest | Fails e ↦ Faulty e ]) is ∙ same step
  where
    same : (x : StateStep) → elim x [ Goes next ↦ Moved next state rest | Leaves other ↦ prefix_from limits factors location other rest | Fails e ↦ Faulty e ] ≡ prefix_by limits factors location state rest x
    same (Goes next) = refl
    same (Leaves other) = refl
    same (Fails e) = refl

module _ (Fixed : Type 0) (limits : Limits) (factors : Factors) (location : ℕ) (now : ContextState ℕ) (whole : Prefix) (left : Instructions ℕ) (so_far : whole ≡ prefix_from limits factors location now left) where
  -- the prefix goes on with the step of the next instruction
  prefix_goes : (i : CallFrameInstruction ℕ) (rest : Instructions ℕ) (step : StateStep) → left ≡ Ok i ∷ rest → state_step limits factors location now i ≡ step → whole ≡ prefix_by limits factors location now rest step
  prefix_goes i rest step is stepped = so_far ∙ ap (prefix_from limits factors location now) is ∙ prefix-step limits factors location now i rest step stepped

  pub reached_next : (i : CallFrameInstruction ℕ) (rest : Instructions ℕ) (new : ContextState ℕ) → left ≡ Ok i ∷ rest
      → Executes Fixed now new (state_step limits factors location now i) (Ok None) → whole ≡ prefix_from limits factors location new rest
  unfolding prefix_by
  reached_next i rest new is carried_out = prefix_goes i rest (Leaves new) is carried_out

  pub runs_moved : (i : CallFrameInstruction ℕ) (rest : Instructions ℕ) (new : ContextState ℕ) (next : ℕ) → left ≡ Ok i ∷ rest
      → Executes Fixed now new (state_step limits factors location now i) (Ok (Some next)) → Runs Fixed new rest whole (Ok (Some next))
  unfolding prefix_by
  runs_moved i rest new next is carried_out = prefix_goes i rest (Goes next) is carried_out.0 ∙ ap (λ (s : ContextState ℕ). Moved next s rest) (sym carried_out.1)

  pub runs_refused : (i : CallFrameInstruction ℕ) (rest other : Instructions ℕ) (new : ContextState ℕ) (e : Error) → left ≡ Ok i ∷ rest
      → Executes Fixed now new (state_step limits factors location now i) (Err e) → Runs Fixed new other whole (Err e)
  unfolding prefix_by
  runs_refused i rest other new e is carried_out = λ told. prefix_goes i rest (Fails e) is (carried_out told)

  pub runs_faulty : (rest : Instructions ℕ) (new : ContextState ℕ) (e : Error) → left ≡ Err e ∷ [] → Runs Fixed new rest whole (Err e)
  runs_faulty rest new e is = λ _. so_far ∙ ap (prefix_from limits factors location now) is

  pub runs_ended : (rest : Instructions ℕ) → left ≡ [] → Runs Fixed now rest whole (Ok None)
  runs_ended rest is = so_far ∙ ap (prefix_from limits factors location now) is

-- ---- rows, by prefixes

rows_by : Limits → Factors → ℕ → ℕ → Prefix → RowList ℕ
rows_by limits factors end start (Moved next state rest) = row_before (with_bounds start next state).row (rows_of_state limits factors end next (with_bounds start next state) rest)
rows_by limits factors end start (Ended state) = row_before (with_bounds start end state).row no_rows
rows_by limits factors end start (Faulty e) = refused_rows e

rows_prefix : (limits : Limits) (factors : Factors) (end start : ℕ) (state : ContextState ℕ) (instructions : Instructions ℕ)
    → rows_of_state limits factors end start state instructions ≡ rows_by limits factors end start (prefix_from limits factors start state instructions)
unfolding rows_by
rows_prefix limits factors end start state [] = refl
rows_prefix limits factors end start state (Err e ∷ rest) = refl
rows_prefix limits factors end start state (Ok i ∷ rest) = go (state_step limits factors start state i) (λ other. rows_prefix limits factors end start other rest)
  where
    go : (step : StateStep) → ((other : ContextState ℕ) → rows_of_state limits factors end start other rest ≡ rows_by limits factors end start (prefix_from limits factors start other rest))
        → elim step [
          | Goes next ↦ row_before (with_bounds start next state).row (rows_of_state limits factors end next (with_bounds start next state) rest)
          | Leaves other ↦ rows_of_state limits factors end start other rest
          | Fails e ↦ refused_rows e
        ]
        ≡ rows_by limits factors end start (elim step [ Goes next ↦ Moved next state rest | Leaves other ↦ prefix_from limits factors start other rest | Fails e ↦ Faulty e ])
    go (Goes next) others = refl
    go (Leaves other) others = others other
    go (Fails e) others = refl

-- ---- what a state makes is what the executed effects make

-- the frame of the instructions that are executed in a state
abbrev frame_of : Limits → Factors → ContextState ℕ → InstructionContext ℕ
frame_of limits factors s = record { factors = factors; limits = limits; initial_rules = s.initial_rules }

-- a step of a state and one after effects do the same
Alike : ContextState ℕ → List (Effect ℕ) → StateStep → InstructionStep ℕ → Type 0
Alike s executed (Goes location) (Moves other) = location ≡ other
Alike s executed (Leaves state) (Writes effect) = Stands state (effect ∷ executed) × (state.initial_rules ≡ s.initial_rules)
Alike s executed (Fails e) (Refused other) = e ≡ other
Alike s executed _ _ = ⊥

module _ (limits : Limits) (factors : Factors) (s : ContextState ℕ) (executed : List (Effect ℕ)) (h : Stands s executed) where
  comes_alike : (e : Effect ℕ) (answer : Result (ContextState ℕ) Error) (need : Result (Unit {0}) Error) → Comes s.initial_rules executed e answer need → Alike s executed (left_by answer) (written e need)
  unfolding Alike
  comes_alike e (Ok state) need came = subst (λ (n : Result (Unit {0}) Error). Alike s executed (Leaves state) (written e n)) (sym came.0) (came.2, came.1)
  comes_alike e (Err x) need came = subst (λ (n : Result (Unit {0}) Error). Alike s executed (Fails x) (written e n)) (sym came) refl

  abbrev writes_alike : (e : Effect ℕ) → destination_of e ≡ None → Alike s executed (left_by (state_after limits e s)) (written e (needs limits s.initial_rules executed e))
  writes_alike e still = comes_alike e (state_after limits e s) (needs limits s.initial_rules executed e) (steps limits s executed h e still)

  step_by-alike : (answer : Result (Effect ℕ) Error) → Alike s executed (state_step_by limits s answer) (step_from (frame_of limits factors s) executed answer)
  unfolding Alike
  step_by-alike (Err e) = refl
  step_by-alike (Ok (Move location)) = refl
  step_by-alike (Ok (Cfa rule)) = writes_alike (Cfa rule) refl
  step_by-alike (Ok (CfaRegister register)) = writes_alike (CfaRegister register) refl
  step_by-alike (Ok (CfaOffset offset)) = writes_alike (CfaOffset offset) refl
  step_by-alike (Ok (Rule register rule)) = writes_alike (Rule register rule) refl
  step_by-alike (Ok (RestoreRule register)) = writes_alike (RestoreRule register) refl
  step_by-alike (Ok NegateRaState) = writes_alike NegateRaState refl
  step_by-alike (Ok (ArgsSize size)) = writes_alike (ArgsSize size) refl
  step_by-alike (Ok Remember) = writes_alike Remember refl
  step_by-alike (Ok Restore) = writes_alike Restore refl
  step_by-alike (Ok Nothing) = writes_alike Nothing refl

  step-alike : (location : ℕ) (i : CallFrameInstruction ℕ) → Alike s executed (state_step limits factors location s i) (step_of (frame_of limits factors s) location executed i)
  step-alike location i = step_by-alike (effect_of factors location i)

-- the same effects stand in a state with other bounds
bounded : (start end : ℕ) (s : ContextState ℕ) (executed : List (Effect ℕ)) → Stands s executed → Stands (with_bounds start end s) executed
bounded start end s executed h = record { count = h.count; parts = h.parts }

-- the row of a state is that of the effects
row_is : (start end : ℕ) (s : ContextState ℕ) (executed : List (Effect ℕ)) → Stands s executed → (with_bounds start end s).row ≡ row_after (unwrap_or s.initial_rules empty) start end executed
row_is start end s executed h = ap (row_with start end) (row_parts s executed h)

-- the rows of a state are those after the effects
pub rows_alike : (limits : Limits) (factors : Factors) (end start : ℕ) (s : ContextState ℕ) (executed : List (Effect ℕ)) (instructions : Instructions ℕ) → Stands s executed
    → rows_of_state limits factors end start s instructions ≡ rows_from (frame_of limits factors s) end start executed instructions
unfolding Alike
rows_alike limits factors end start s executed [] h = ap (λ (r : Row ℕ). row_before r no_rows) (row_is start end s executed h)
rows_alike limits factors end start s executed (Err e ∷ rest) h = refl
rows_alike limits factors end start s executed (Ok i ∷ rest) h =
    go (state_step limits factors start s i) (step_of (frame_of limits factors s) start executed i) (step-alike limits factors s executed h start i)
    (λ next. rows_alike limits factors end next (with_bounds start next s) executed rest (bounded start next s executed h))
    (λ state effect stands. rows_alike limits factors end start state (effect ∷ executed) rest stands)
  where
    go : (a : StateStep) (b : InstructionStep ℕ) → Alike s executed a b
        → ((next : ℕ) → rows_of_state limits factors end next (with_bounds start next s) rest ≡ rows_from (frame_of limits factors s) end next executed rest)
        → ((state : ContextState ℕ) (effect : Effect ℕ) → Stands state (effect ∷ executed) → rows_of_state limits factors end start state rest ≡ rows_from (frame_of limits factors state) end start (effect ∷ executed) rest)
        → ◌≡◌ {A = RowList ℕ} (elim a [
          | Goes next ↦ row_before (with_bounds start next s).row (rows_of_state limits factors end next (with_bounds start next s) rest)
          | Leaves other ↦ rows_of_state limits factors end start other rest
          | Fails e ↦ refused_rows e
        ]) (elim b [
          | Moves location ↦ row_before (row_after (unwrap_or s.initial_rules empty) start location executed) (rows_from (frame_of limits factors s) end location executed rest)
          | Writes effect ↦ rows_from (frame_of limits factors s) end start (effect ∷ executed) rest
          | Refused e ↦ refused_rows e
        ])
    go (Goes next) (Moves location) same moved wrote =
        (λ j. row_before (row_is start next s executed h j) (moved next j))
        ∙ ap (λ (l : ℕ). row_before (row_after (unwrap_or s.initial_rules empty) start l executed) (rows_from (frame_of limits factors s) end l executed rest)) same
    go (Goes next) (Writes effect) same moved wrote = absurd same
    go (Goes next) (Refused e) same moved wrote = absurd same
    go (Leaves state) (Moves location) same moved wrote = absurd same
    go (Leaves state) (Writes effect) same moved wrote =
        wrote state effect same.0
        ∙ ap (λ (rules : InitialRules ℕ). rows_from (record { factors = factors; limits = limits; initial_rules = rules }) end start (effect ∷ executed) rest) same.1
    go (Leaves state) (Refused e) same moved wrote = absurd same
    go (Fails e) (Moves location) same moved wrote = absurd same
    go (Fails e) (Writes effect) same moved wrote = absurd same
    go (Fails e) (Refused other) same moved wrote = ap (λ (x : Error). refused_rows x) same

-- ---- the CIE's own instructions

-- the frame of the CIE's instructions
abbrev pub first_frame : Limits → Factors → InstructionContext ℕ
first_frame limits factors = record { factors = factors; limits = limits; initial_rules = None }

-- how far they have been executed
pub record Started (limits : Limits) (factors : Factors) (location : ℕ) (now : ContextState ℕ) (instructions left : Instructions ℕ) : Type 0 where
  pub executed : List (Effect ℕ)
  pub same : executed_from (first_frame limits factors) 0 [] instructions ≡ executed_from (first_frame limits factors) location executed left
  pub stands : Stands now executed
  pub initial_rules : now.initial_rules ≡ None

pub started_first : {T : Type 0} (number : T → ℕ) (limits : Limits) (factors : Factors) (s : ContextState T) (instructions : Instructions ℕ) → s ≡ first_state → Started limits factors 0 (state_as number s) instructions instructions
started_first number limits factors s instructions is = record {
  executed = [];
  same = refl;
  stands = subst (λ (now : ContextState ℕ). Stands now []) (sym (ap (state_as number) is ∙ first_as number)) first_stands;
  initial_rules = ap (λ (now : ContextState ℕ). now.initial_rules) (ap (state_as number) is);
}

-- what the instructions of a prefix come to in the CIE
ComesTo : Limits → Factors → Result (List (Effect ℕ)) Error → Prefix → Type 0
ComesTo limits factors all (Moved next state rest) =
    (executed : List (Effect ℕ)) × (all ≡ executed_from (first_frame limits factors) next executed rest) × Stands state executed × (state.initial_rules ≡ None)
ComesTo limits factors all (Ended state) = (executed : List (Effect ℕ)) × (all ≡ Ok executed) × Stands state executed × (state.initial_rules ≡ None)
ComesTo limits factors all (Faulty e) = all ≡ Err e

prefix_alike : (limits : Limits) (factors : Factors) (location : ℕ) (s : ContextState ℕ) (executed : List (Effect ℕ)) (instructions : Instructions ℕ) → Stands s executed → s.initial_rules ≡ None
    → ComesTo limits factors (executed_from (first_frame limits factors) location executed instructions) (prefix_from limits factors location s instructions)
unfolding Alike ComesTo
prefix_alike limits factors location s executed [] h none = (executed, refl, h, none)
prefix_alike limits factors location s executed (Err e ∷ rest) h none = refl
prefix_alike limits factors location s executed (Ok i ∷ rest) h none =
    go (state_step limits factors location s i) (step_of (first_frame limits factors) location executed i)
    (subst (λ (rules : InitialRules ℕ). Alike s executed (state_step limits factors location s i) (step_of (record { factors = factors; limits = limits; initial_rules = rules }) location executed i)) none
    (step-alike limits factors s executed h location i))
    (λ state effect stands initial_rules. prefix_alike limits factors location state (effect ∷ executed) rest stands initial_rules)
  where
    go : (a : StateStep) (b : InstructionStep ℕ) → Alike s executed a b
        → ((state : ContextState ℕ) (effect : Effect ℕ) → Stands state (effect ∷ executed) → state.initial_rules ≡ None
        → ComesTo limits factors (executed_from (first_frame limits factors) location (effect ∷ executed) rest) (prefix_from limits factors location state rest))
        → ComesTo limits factors (elim b [
          | Moves next ↦ executed_from (first_frame limits factors) next executed rest
          | Writes effect ↦ executed_from (first_frame limits factors) location (effect ∷ executed) rest
          | Refused e ↦ Err e
        ]) (elim a [ Goes next ↦ Moved next s rest | Leaves other ↦ prefix_from limits factors location other rest | Fails e ↦ Faulty e ])
    go (Goes next) (Moves other) same wrote = (executed, ap (λ (l : ℕ). executed_from (first_frame limits factors) l executed rest) (sym same), h, none)
    go (Goes next) (Writes effect) same wrote = absurd same
    go (Goes next) (Refused e) same wrote = absurd same
    go (Leaves state) (Moves location) same wrote = absurd same
    go (Leaves state) (Writes effect) same wrote = wrote state effect same.0 (same.1 ∙ none)
    go (Leaves state) (Refused e) same wrote = absurd same
    go (Fails e) (Moves location) same wrote = absurd same
    go (Fails e) (Writes effect) same wrote = absurd same
    go (Fails e) (Refused other) same wrote = ap (λ (x : Error). Err x) (sym same)

module _ (Fixed : Type 0) (limits : Limits) (factors : Factors) (location : ℕ) (now new : ContextState ℕ) (instructions left rest : Instructions ℕ) (s : Started limits factors location now instructions left) where
  abbrev prefix : Prefix
  prefix = prefix_from limits factors location now left

  come : (f : Prefix) → prefix ≡ f → ComesTo limits factors (executed_from (first_frame limits factors) location s.executed left) f
  come f is = subst (λ (p : Prefix). ComesTo limits factors (executed_from (first_frame limits factors) location s.executed left) p) is (prefix_alike limits factors location now s.executed left s.stands s.initial_rules)

  pub started_next : (next : ℕ) → Runs Fixed new rest prefix (Ok (Some next)) → Started limits factors next new instructions rest
  unfolding ComesTo
  started_next next ran = let came = come (Moved next new rest) ran in record { executed = came.0; same = s.same ∙ came.1; stands = came.2; initial_rules = came.3 }

  pub started_ended : Runs Fixed new rest prefix (Ok None) → (executed : List (Effect ℕ)) × (executed_from (first_frame limits factors) 0 [] instructions ≡ Ok executed) × Stands new executed × (new.initial_rules ≡ None)
  unfolding ComesTo
  started_ended ran = let came = come (Ended new) ran in (came.0, s.same ∙ came.1, came.2, came.3)

  pub starts_refused : (e : Error) → Runs Fixed new rest prefix (Err e) → Starts Fixed new (executed_by_cie limits factors instructions) (Err e)
  unfolding ComesTo
  starts_refused e ran = λ told. ap (λ left. left >>= with_room limits) (s.same ∙ come (Faulty e) (ran told))

-- the CIE's rules are kept, or there is no room for them
module _ {T : Type 0} (number : T → ℕ) (Fixed : Type 0) (limits : Limits) (factors : Factors) (instructions : Instructions ℕ) (executed : List (Effect ℕ)) (s : ContextState T)
    (left : executed_from (first_frame limits factors) 0 [] instructions ≡ Ok executed) (h : Stands (state_as number s) executed) (initial_rules : (state_as number s).initial_rules ≡ None) where
  saved : (answer : Result (ContextState T) Error) → state_with_initial_rules limits (record s { initial_rules = None }) ≡ answer → Saves executed (answer_as (state_as number) answer) (with_room limits executed)
  saved answer is =
      let P : Result (ContextState ℕ) Error → Type 0 = λ a. Saves executed a (with_room limits executed) in
      subst P (saving_as number limits (record s { initial_rules = None }) ∙ ap (answer_as (state_as number)) is) (saves limits (state_as number s) executed h initial_rules)

  left_is : executed_by_cie limits factors instructions ≡ with_room limits executed
  left_is = ap (λ l. l >>= with_room limits) left

  pub starts_saved : (new : ContextState T) → state_with_initial_rules limits (record s { initial_rules = None }) ≡ Ok new → Starts Fixed (state_as number new) (executed_by_cie limits factors instructions) (Ok tt)
  starts_saved new is = let made = saved (Ok new) is in (executed, left_is ∙ made.0, made.1, made.2)

  pub starts_full : (new : ContextState T) (e : Error) → (e ≢ OutOfMemory → state_with_initial_rules limits (record s { initial_rules = None }) ≡ Err e) → (Fixed → e ≢ OutOfMemory)
      → Starts Fixed (state_as number new) (executed_by_cie limits factors instructions) (Err e)
  starts_full new e refused memory = told
    where
      told : IsRefusal Fixed e → executed_by_cie limits factors instructions ≡ Err e
      told (inl fixed) = left_is ∙ saved (Err e) (refused (memory fixed))
      told (inr other) = left_is ∙ saved (Err e) (refused other)

  pub starts_by : (new : ContextState T) (result : Result (Unit {0}) Error) → Acts (state_with_initial_rules limits) (record s { initial_rules = None }) new result
      → (Fixed → IfErr result (λ e. e ≢ OutOfMemory)) → Starts Fixed (state_as number new) (executed_by_cie limits factors instructions) result
  starts_by new (Ok done) acts memory = starts_saved new acts.done
  starts_by new (Err e) acts memory = starts_full new e acts.refused memory

-- ---- parts of rows that are left

module _ {R S E O L K : Type 0} where
  abbrev pub factors_in : ProgramRows R S E O L K → Factors
  factors_in rows = rows.factors

  abbrev pub end_in : ProgramRows R S E O L K → ℕ
  end_in rows = rows.end_address

  abbrev pub next_in : ProgramRows R S E O L K → ℕ
  next_in rows = rows.next_start_address

  abbrev pub ended_in : ProgramRows R S E O L K → Bool
  ended_in rows = rows.is_ended

  abbrev pub given_in : ProgramRows R S E O L K → Bool
  given_in rows = rows.has_row

-- ---- rows

-- where the CIE's effects left a state, its rows are those of the program
pub rows_begun : (Fixed : Type 0) (limits : Limits) (program : EntryProgram ℕ) (state : ContextState ℕ) → Starts Fixed state (effects_of_cie limits program) (Ok tt)
    → rows_of_state limits program.factors program.end_address program.initial_address state program.instructions ≡ rows_of_program limits program
rows_begun Fixed limits program state started =
    rows_alike limits program.factors program.end_address program.initial_address state started.0 program.instructions started.3
    ∙ ap (λ (rules : InitialRules ℕ). rows_from (record { factors = program.factors; limits = limits; initial_rules = rules }) program.end_address program.initial_address started.0 program.instructions) started.2
    ∙ sym (ap (rows_after_cie limits program) started.1)

module _ {R S E O L K : Type 0} (stretch : R → Stretch) (limit : ℕ) (number : O → ℕ) (items : K → List (UnwindTableRow O L)) (limits : Limits) (Fixed : Type 0) (t u : ProgramRows R S E O L K) where
  abbrev Left : ProgramRows R S E O L K → RowList ℕ
  Left rows = rows_left stretch limit number items limits rows

  abbrev state_now : ContextState ℕ
  state_now = rows_state number items t

  abbrev whole_prefix : Prefix
  whole_prefix = prefix_from limits t.factors t.next_start_address state_now (instructions_left stretch limit t)

  -- the row that is current if one is given
  given_row : u.has_row ≡ true → Some (rows_state number items u).row ≡ current_row number items u
  given_row given = sym (ap (λ b. cond b (Some (rows_state number items u).row) None) given)

  -- nothing is left at the end
  none_left : u.is_ended ≡ true → Left u ≡ no_rows
  none_left ended = ap (λ b. cond b no_rows (rows_of_state limits u.factors u.end_address u.next_start_address (rows_state number items u) (instructions_left stretch limit u))) ended

  module _ (goes : t.is_ended ≡ false) where
    whole_left : (f : Prefix) → whole_prefix ≡ f → Left t ≡ rows_by limits t.factors t.end_address t.next_start_address f
    whole_left f is =
        ap (λ b. cond b no_rows (rows_of_state limits t.factors t.end_address t.next_start_address state_now (instructions_left stretch limit t))) goes
        ∙ rows_prefix limits t.factors t.end_address t.next_start_address state_now (instructions_left stretch limit t)
        ∙ ap (rows_by limits t.factors t.end_address t.next_start_address) is

    -- a row, and what is left after it
    goes_to : (others : RowList ℕ) → Left t ≡ row_before (rows_state number items u).row others → Left u ≡ others → u.has_row ≡ true → Advances stretch limit number items limits Fixed t (Ok true) u
    goes_to others is left given = record {
      first = ap first_of is ∙ ap (λ (o : Option (Row ℕ)). Ok o) (given_row given);
      refused = tt;
      left = left ∙ sym (ap after_first is);
      given = given;
    }

    -- a move ended the row
    pub moved_on : (location : ℕ) (mid : ContextState ℕ) (rest : Instructions ℕ) → Runs Fixed mid rest whole_prefix (Ok (Some location))
        → rows_state number items u ≡ with_bounds t.next_start_address location mid
        → u.factors ≡ t.factors → u.end_address ≡ t.end_address → u.next_start_address ≡ location → instructions_left stretch limit u ≡ rest → u.is_ended ≡ false → u.has_row ≡ true
        → Advances stretch limit number items limits Fixed t (Ok true) u
    unfolding rows_by
    moved_on location mid rest ran is factors end next instructions going given =
        goes_to (rows_of_state limits t.factors t.end_address location (with_bounds t.next_start_address location mid) rest)
        (whole_left (Moved location mid rest) ran
        ∙ ap (λ (s : ContextState ℕ). row_before s.row (rows_of_state limits t.factors t.end_address location (with_bounds t.next_start_address location mid) rest)) (sym is))
        (ap (λ b. cond b no_rows (rows_of_state limits u.factors u.end_address u.next_start_address (rows_state number items u) (instructions_left stretch limit u))) going
        ∙ (λ i. rows_of_state limits (factors i) (end i) (next i) (is i) (instructions i)))
        given

    -- the end of the instructions ended the last row
    pub ended_last : (mid : ContextState ℕ) (rest : Instructions ℕ) → Runs Fixed mid rest whole_prefix (Ok None)
        → rows_state number items u ≡ with_bounds t.next_start_address t.end_address mid
        → u.is_ended ≡ true → u.has_row ≡ true → Advances stretch limit number items limits Fixed t (Ok true) u
    unfolding rows_by
    ended_last mid rest ran is ended given =
        goes_to no_rows (whole_left (Ended mid) ran ∙ ap (λ (s : ContextState ℕ). row_before s.row no_rows) (sym is)) (none_left ended) given

    -- an instruction failed
    pub refused_here : (mid : ContextState ℕ) (rest : Instructions ℕ) (e : Error) → Runs Fixed mid rest whole_prefix (Err e) → u.is_ended ≡ true → u.has_row ≡ false
        → Advances stretch limit number items limits Fixed t (Err e) u
    unfolding rows_by
    refused_here mid rest e ran ended given = record {
      first = tt;
      refused = λ told. ap first_of (whole_left (Faulty e) (ran told));
      left = none_left ended;
      given = given;
    }

  -- no row is left
  pub ended_before : t.is_ended ≡ true → u.is_ended ≡ true → u.has_row ≡ false → Advances stretch limit number items limits Fixed t (Ok false) u
  ended_before over ended given =
      let none : Left t ≡ no_rows = ap (λ b. cond b no_rows (rows_of_state limits t.factors t.end_address t.next_start_address state_now (instructions_left stretch limit t))) over in record {
        first = ap first_of none ∙ ap (λ b. Ok (cond b (Some (rows_state number items u).row) None)) (sym given);
        refused = tt;
        left = none_left ended ∙ sym (ap after_first none);
        given = given;
      }

-- ---- a row that was given back

-- an answer shows the current row
pub answer_shows : {O L : Type 0} (number : O → ℕ) (given : Option (Bor (UnwindTableRow O L))) (row : Option (Row ℕ)) (left : RowList ℕ) → option_map (λ row. row_in number row.now) given ≡ row → first_of left ≡ Ok row
    → first_of left ≡ Ok (option_map (λ row. row_in number row.now) given)
answer_shows number given row left shown first = first ∙ ap (λ (o : Option (Row ℕ)). Ok o) (sym shown)

-- ---- the row for an address

-- the rows are as their first, and those after it
row_among-first : (address : ℕ) (left : RowList ℕ) (row : Row ℕ) → first_of left ≡ Ok (Some row) → row_among address left ≡ cond (holds_at address row) (Ok row) (row_among address (after_first left))
row_among-first address left row is = go left.rows left.refusal is
  where
    chosen : (b : Bool) (row : Row ℕ) (others : List (Row ℕ)) (refusal : Option Error)
        → found_or refusal (cond b (Some row) (find (holds_at address) others)) ≡ cond b (Ok row) (found_or refusal (find (holds_at address) others))
    chosen true row others refusal = refl
    chosen false row others refusal = refl

    go : (rows : List (Row ℕ)) (refusal : Option Error) → first_of (record { rows = rows; refusal = refusal }) ≡ Ok (Some row)
        → row_among address (record { rows = rows; refusal = refusal }) ≡ cond (holds_at address row) (Ok row) (row_among address (after_first (record { rows = rows; refusal = refusal })))
    go [] None is = let none : ◌≡◌ {A = Option (Row ℕ)} None (Some row) = cc in cc
    go [] (Some e) is = cc
    go (first ∷ others) refusal is =
        let same : first ≡ row = cc in
        chosen (holds_at address first) first others refusal ∙ ap (λ (r : Row ℕ). cond (holds_at address r) (Ok r) (found_or refusal (find (holds_at address) others))) same

pub found_here : (address : ℕ) (left : RowList ℕ) (row : Row ℕ) → first_of left ≡ Ok (Some row) → holds_at address row ≡ true → row_among address left ≡ Ok row
found_here address left row is here = row_among-first address left row is ∙ ap (λ b. cond b (Ok row) (row_among address (after_first left))) here

pub found_later : (address : ℕ) (left : RowList ℕ) (row : Row ℕ) → first_of left ≡ Ok (Some row) → holds_at address row ≡ false → row_among address left ≡ row_among address (after_first left)
found_later address left row is here = row_among-first address left row is ∙ ap (λ b. cond b (Ok row) (row_among address (after_first left))) here

-- no row, or an error
found_at_end : (address : ℕ) (rows : List (Row ℕ)) (refusal : Option Error) (answer : Result (Row ℕ) Error) → ((o : Option Error) → end_of_rows o ≡ first_of (record { rows = rows; refusal = refusal }) → found_or o None ≡ answer)
    → ((row : Row ℕ) → Ok (Some row) ≡ first_of (record { rows = rows; refusal = refusal }) → ⊥) → row_among address (record { rows = rows; refusal = refusal }) ≡ answer
found_at_end address [] refusal answer ends never = ends refusal refl
found_at_end address (row ∷ others) refusal answer ends never = absurd (never row refl)

pub found_nowhere : (address : ℕ) (left : RowList ℕ) → first_of left ≡ Ok None → row_among address left ≡ Err NoUnwindInfoForAddress
found_nowhere address left is = found_at_end address left.rows left.refusal (Err NoUnwindInfoForAddress) ends never
  where
    ends : (o : Option Error) → end_of_rows o ≡ first_of left → ◌≡◌ {A = Result (Row ℕ) Error} (found_or o None) (Err NoUnwindInfoForAddress)
    ends None same = refl
    ends (Some e) same = let no : ◌≡◌ {A = Result (Option (Row ℕ)) Error} (Err e) (Ok None) = same ∙ is in cc

    never : (row : Row ℕ) → Ok (Some row) ≡ first_of left → ⊥
    never row same = let no : ◌≡◌ {A = Result (Option (Row ℕ)) Error} (Ok (Some row)) (Ok None) = same ∙ is in let none : ◌≡◌ {A = Option (Row ℕ)} (Some row) None = cc in cc

pub found_refused : (address : ℕ) (left : RowList ℕ) (e : Error) → first_of left ≡ Err e → row_among address left ≡ Err e
found_refused address left e is = found_at_end address left.rows left.refusal (Err e) ends never
  where
    ends : (o : Option Error) → end_of_rows o ≡ first_of left → ◌≡◌ {A = Result (Row ℕ) Error} (found_or o None) (Err e)
    ends None same = let no : ◌≡◌ {A = Result (Option (Row ℕ)) Error} (Ok None) (Err e) = same ∙ is in cc
    ends (Some x) same = let no : ◌≡◌ {A = Result (Option (Row ℕ)) Error} (Err x) (Err e) = same ∙ is in let one : x ≡ e = cc in ap (λ (y : Error). Err y) one

    never : (row : Row ℕ) → Ok (Some row) ≡ first_of left → ⊥
    never row same = let no : ◌≡◌ {A = Result (Option (Row ℕ)) Error} (Ok (Some row)) (Err e) = same ∙ is in cc
