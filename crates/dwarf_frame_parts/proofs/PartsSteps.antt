-- The steps of instructions that are executed without a context.
use Rattle.std.proofs.Common.{◌≡◌, ℕ, zero, suc, ◌+◌, ◌*◌, ◌%◌, ◌^◌, Bool, true, false, [], ◌∷◌, Some, None, Result, Ok, Err, refl, sym, ap, subst, ◌∙◌}
use Rattle.std.specs.Prelude.{nat_lt, if◌then◌else◌}
use Rattle.std.specs.FinMap.{empty}
use Rattle.dwarf_constants.specs.declared.error.Error.{Error}
use Rattle.dwarf_constants.specs.declared.error.Error.TheVariants.{AddressOverflow, InvalidCfiSetLoc}
use Rattle.dwarf_frame_rows.specs.declared.effect.Effect.{Effect}
use Rattle.dwarf_frame_rows.specs.declared.effect.Effect.TheVariants.{Move, Cfa, CfaRegister, CfaOffset, Rule, RestoreRule, NegateRaState, ArgsSize, Remember, Restore, Nothing}
use Rattle.dwarf_frame_rows.specs.Effects.{Limits}
use Rattle.dwarf_frame_instructions.specs.declared.effects.Factors.{Factors}
use Rattle.dwarf_frame_instructions.specs.declared.instructions.CallFrameInstruction.{CallFrameInstruction}
use Rattle.dwarf_frame_instructions.specs.declared.instructions.CallFrameInstruction.TheVariants as i
use Rattle.dwarf_frame_instructions.specs.Effects.{address_limit, effect_of}
use Rattle.dwarf_frame_instructions.specs.InstructionViews.{answer_as, instruction_as}
use Rattle.dwarf_frame_instructions.specs.Parts.{cfa_expression, rule_of, sign_state, turned, turns, written_rule}
use Rattle.dwarf_frame_instructions.specs.Programs.{InstructionContext, InstructionStep, Instructions, Moves, Refused, Writes, destination_of, executed_from, row_after, rules_left, step_by, step_from, step_of, written}
use Rattle.dwarf_frame_instructions.specs.Refusals.{is_turnable, needs, needs_register_and_offset}
use Rattle.dwarf_frame_instructions.specs.StateViews.{effect_as}
use Rattle.dwarf_frame_instructions.specs.Survivors.{open_states, survivors}
use Rattle.dwarf_frame_parts.specs.declared.parts.Parts.{Parts}
use Rattle.dwarf_frame_parts.specs.declared.parts_state.PartsState.{PartsState}
use Rattle.dwarf_frame_parts.specs.declared.simple_row.Columns.{Columns}
use Rattle.dwarf_frame_parts.specs.declared.simple_row.SimpleRow.{SimpleRow}
use Rattle.dwarf_frame_parts.specs.Execution.{Leaves, Sets}
use Rattle.dwarf_frame_parts.specs.PartsStates.{AreApart, Effects, Follows, HasRoomForParts, Keeps, KeepsMore, Remembers, Rules}
use Rattle.dwarf_frame_parts.specs.RowParts.{parts_of}
use Rattle.dwarf_frame_parts.specs.SimpleRows.{parts_shown}
use Rattle.dwarf_frame_parts.proofs.PartsLaws.{follows-written, get-written, rules-fit}

-- ---- the effect of an instruction, with numbers

module _ {T : Type 0} (number : T → ℕ) (factors : Factors) (location : ℕ) where
  abbrev Seen : CallFrameInstruction T → Type 0
  Seen instruction = effect_of factors location (instruction_as number instruction) ≡ answer_as (effect_as number) (effect_of factors location instruction)

  set-seen : (address : ℕ) (b : Bool) → ◌≡◌ {A = Result (Effect ℕ) Error} (if b then Err (InvalidCfiSetLoc address) else Ok (Move address))
      (answer_as (effect_as number) (if b then Err (InvalidCfiSetLoc address) else Ok (Move address)))
  set-seen address true = refl
  set-seen address false = refl

  advance-seen : (next : ℕ) (b : Bool) → ◌≡◌ {A = Result (Effect ℕ) Error} (if b then Ok (Move next) else Err AddressOverflow) (answer_as (effect_as number) (if b then Ok (Move next) else Err AddressOverflow))
  advance-seen next true = refl
  advance-seen next false = refl

  pub effect-seen : (instruction : CallFrameInstruction T) → Seen instruction
  effect-seen (i.SetLoc address) = set-seen address (nat_lt address location)
  effect-seen (i.AdvanceLoc delta) =
      advance-seen (location + (delta * factors.code_alignment_factor) % 2 ^ 64) (nat_lt (location + (delta * factors.code_alignment_factor) % 2 ^ 64) (address_limit factors.address_size))
  effect-seen (i.DefCfa register offset) = refl
  effect-seen (i.DefCfaSf register factored) = refl
  effect-seen (i.DefCfaRegister register) = refl
  effect-seen (i.DefCfaOffset offset) = refl
  effect-seen (i.DefCfaOffsetSf factored) = refl
  effect-seen (i.DefCfaExpression expression) = refl
  effect-seen (i.Undefined register) = refl
  effect-seen (i.SameValue register) = refl
  effect-seen (i.Offset register factored) = refl
  effect-seen (i.OffsetExtendedSf register factored) = refl
  effect-seen (i.ValOffset register factored) = refl
  effect-seen (i.ValOffsetSf register factored) = refl
  effect-seen (i.Register register source) = refl
  effect-seen (i.Expression register expression) = refl
  effect-seen (i.ValExpression register expression) = refl
  effect-seen (i.Restore register) = refl
  effect-seen i.RememberState = refl
  effect-seen i.RestoreState = refl
  effect-seen (i.ArgsSize size) = refl
  effect-seen i.NegateRaState = refl
  effect-seen i.Nop = refl

  -- its step, by its effect
  pub step-seen : (frame : InstructionContext ℕ) → frame.factors ≡ factors → (executed : Effects) (instruction : CallFrameInstruction T) (effect : Effect T) → Ok effect ≡ effect_of factors location instruction
      → step_of frame location executed (instruction_as number instruction) ≡ step_by frame executed (effect_as number effect)
  step-seen frame by executed instruction effect is =
      ap (λ (f : Factors). step_from frame executed (effect_of f location (instruction_as number instruction))) by
      ∙ ap (step_from frame executed) (effect-seen instruction ∙ ap (answer_as (effect_as number)) (sym is))

-- an effect that doesn't move the location is executed if it has what it needs
pub step-written : (frame : InstructionContext ℕ) (executed : Effects) (e : Effect ℕ) → destination_of e ≡ None → needs frame.limits frame.initial_rules executed e ≡ Ok tt → step_by frame executed e ≡ Writes e
step-written frame executed (Move location) stays has = cc
step-written frame executed (Cfa rule) stays has = ap (written (Cfa rule)) has
step-written frame executed (CfaRegister register) stays has = ap (written (CfaRegister register)) has
step-written frame executed (CfaOffset offset) stays has = ap (written (CfaOffset offset)) has
step-written frame executed (Rule register rule) stays has = ap (written (Rule register rule)) has
step-written frame executed (RestoreRule register) stays has = ap (written (RestoreRule register)) has
step-written frame executed NegateRaState stays has = ap (written NegateRaState) has
step-written frame executed (ArgsSize size) stays has = ap (written (ArgsSize size)) has
step-written frame executed Remember stays has = ap (written Remember) has
step-written frame executed Restore stays has = ap (written Restore) has
step-written frame executed Nothing stays has = ap (written Nothing) has

pub stays-seen : {T : Type 0} (number : T → ℕ) (e : Effect T) → destination_of e ≡ None → destination_of (effect_as number e) ≡ None
stays-seen number (Move location) stays = cc
stays-seen number (Cfa rule) stays = refl
stays-seen number (CfaRegister register) stays = refl
stays-seen number (CfaOffset offset) stays = refl
stays-seen number (Rule register rule) stays = refl
stays-seen number (RestoreRule register) stays = refl
stays-seen number NegateRaState stays = refl
stays-seen number (ArgsSize size) stays = refl
stays-seen number Remember stays = refl
stays-seen number Restore stays = refl
stays-seen number Nothing stays = refl

-- an effect that is no move stays
pub stays-else : {T : Type 0} (e : Effect T) → ((location : ℕ) → e ≡ Move location → ⊥) → destination_of e ≡ None
stays-else (Move location) other = absurd (other location refl)
stays-else (Cfa rule) other = refl
stays-else (CfaRegister register) other = refl
stays-else (CfaOffset offset) other = refl
stays-else (Rule register rule) other = refl
stays-else (RestoreRule register) other = refl
stays-else NegateRaState other = refl
stays-else (ArgsSize size) other = refl
stays-else Remember other = refl
stays-else Restore other = refl
stays-else Nothing other = refl

-- ---- what effects need

-- the sign state can be negated if no rule was written for it
turns-none : (n : ℕ) → is_turnable (turned {T = ℕ} n None) ≡ true
turns-none zero = refl
turns-none (suc n) = refl

pub sign-turnable : (initial : Rules) (left : Effects) → written_rule initial sign_state left ≡ None → is_turnable (rule_of initial left sign_state) ≡ true
sign-turnable initial left none = ap (λ r. is_turnable (turned (turns initial left) r)) none ∙ turns-none (turns initial left)

-- a CFA that is no expression has a register and an offset
pub needs-offset : (executed : Effects) → cfa_expression (survivors 0 executed) ≡ None → needs_register_and_offset executed ≡ Ok tt
needs-offset executed none = rw none refl

module _ (columns : Columns) where
  -- a sign state without a rule is negated
  pub needs-turn : (limits : Limits) → HasRoomForParts limits → (initial : Rules) (executed : Effects) (kept new : SimpleRow) → Keeps columns initial kept (survivors 0 executed)
      → Keeps columns initial new (NegateRaState ∷ survivors 0 executed) → needs limits (Some initial) executed NegateRaState ≡ Ok tt
  needs-turn limits room initial executed kept new keeps more =
      rw (sign-turnable initial (survivors 0 executed) keeps.sign) (rules-fit columns limits room initial sign_state (NegateRaState ∷ executed) new more)

  -- an effect that opens and closes nothing is applied
  pub applies-to : {T : Type 0} (number : T → ℕ) (initial : Rules) (old new : PartsState) (executed : Effects) → Follows columns initial old executed → new.initial ≡ old.initial → new.remembered ≡ old.remembered
      → (e : Effect T) → open_states (effect_as number e ∷ executed) ≡ open_states executed → survivors 1 (effect_as number e ∷ executed) ≡ survivors 1 executed
      → (effect : Effect T) (limits : Limits) → e ≡ effect → needs limits (Some initial) executed (effect_as number e) ≡ Ok tt
      → Keeps columns initial new.current (survivors 0 (effect_as number e ∷ executed))
      → (needs limits (Some initial) executed (effect_as number effect) ≡ Ok tt) × Follows columns initial new (effect_as number effect ∷ executed)
  applies-to {T} number initial old new executed follows same rest e depth left effect limits is has keeps =
      subst (λ (f : Effect T). (needs limits (Some initial) executed (effect_as number f) ≡ Ok tt) × Follows columns initial new (effect_as number f ∷ executed)) is
      (has, follows-written columns initial old new executed follows same rest (effect_as number e) depth left keeps)

  -- ---- the parts of a row

  same-parts : (p q : Parts ℕ) → p.cfa ≡ q.cfa → p.fp ≡ q.fp → p.ra ≡ q.ra → p ≡ q
  same-parts p q cfa fp ra = λ j. record { cfa = cfa j; fp = fp j; ra = ra j }

  -- the parts that are kept are those of the row
  pub parts-kept : AreApart columns → (initial : Rules) (start end : ℕ) (executed : Effects) (kept : SimpleRow) → Keeps columns initial kept (survivors 0 executed)
      → parts_of columns.fp columns.ra (row_after initial start end executed) ≡ parts_shown kept
  parts-kept apart initial start end executed kept keeps =
      same-parts (parts_of columns.fp columns.ra (row_after initial start end executed)) (parts_shown kept) (sym keeps.cfa)
      (get-written initial columns.fp.0 apart.frame (survivors 0 executed) ∙ sym keeps.frame)
      (get-written initial columns.ra.0 apart.caller (survivors 0 executed) ∙ sym keeps.caller)

  -- ---- the CIE's own instructions

  -- the state before an FDE's own instructions
  pub follows-none : AreApart columns → (limits : Limits) (factors : Factors) (instructions : Instructions ℕ) (state : PartsState) (kept : SimpleRow) (left : Leaves columns limits factors instructions kept)
      → state.initial ≡ kept → state.current ≡ kept → state.remembered ≡ None → Follows columns (rules_left left.executed) state left.executed
  follows-none apart limits factors instructions state kept left first current none =
      let keeps = left.keeps empty in
      record {
        restores = record {
          frame = ap (λ (k : SimpleRow). (parts_shown {T = ℕ} k).fp) first ∙ keeps.frame ∙ sym (get-written empty columns.fp.0 apart.frame (survivors 0 left.executed));
          caller = ap (λ (k : SimpleRow). (parts_shown {T = ℕ} k).ra) first ∙ keeps.caller ∙ sym (get-written empty columns.ra.0 apart.caller (survivors 0 left.executed));
        };
        current = subst (λ (k : SimpleRow). Keeps columns (rules_left left.executed) k (survivors 0 left.executed)) (sym current) (left.keeps (rules_left left.executed));
        remembers = subst (λ r. Remembers columns (rules_left left.executed) r left.executed) (sym none) left.none_open;
      }

  -- what a step makes of what was executed
  abbrev executed-by : InstructionContext ℕ → Effects → Instructions ℕ → InstructionStep ℕ → Result Effects Error
  executed-by frame executed rest step = elim step [
    | Moves next ↦ executed_from frame next executed rest
    | Writes effect ↦ executed_from frame 0 (effect ∷ executed) rest
    | Refused e ↦ Err e
  ]

  -- one of them sets the CFA or a rule, or does nothing
  pub sets-to : {T : Type 0} (number : T → ℕ) (factors : Factors) (instruction : CallFrameInstruction T) (old new : SimpleRow) (effect : Effect T) → Ok effect ≡ effect_of factors 0 instruction → (e : Effect T) → effect ≡ e → destination_of e ≡ None
      → ((executed : Effects) → open_states (effect_as number e ∷ executed) ≡ open_states executed) → ((executed : Effects) → survivors 0 (effect_as number e ∷ executed) ≡ effect_as number e ∷ survivors 0 executed)
      → ((limits : Limits) (executed : Effects) → HasRoomForParts limits → Keeps columns empty new (survivors 0 (effect_as number e ∷ executed)) → needs limits None executed (effect_as number e) ≡ Ok tt)
      → KeepsMore columns old (effect_as number e) new → Sets columns number factors instruction old new
  sets-to {T} number factors instruction old new effect is e same stays depth left has more limits executed room none keeps =
      let kept = λ (initial : Rules). subst (Keeps columns initial new) (sym (left executed)) (more initial (survivors 0 executed) (keeps initial)) in
      let frame : InstructionContext ℕ = record { factors = factors; limits = limits; initial_rules = None } in
      let goes : Ok e ≡ effect_of factors 0 instruction = ap (λ (f : Effect T). Ok f) (sym same) ∙ is in (
        effect_as number e,
        step-seen number factors 0 frame refl executed instruction e goes ∙ step-written frame executed (effect_as number e) (stays-seen number e stays) (has limits executed room (kept empty)),
        depth executed ∙ none,
        kept,
      )

  -- What was executed of a CIE's own instructions, when these are left.
  pub record Reached (limits : Limits) (factors : Factors) (all rest : Instructions ℕ) (kept : SimpleRow) : Type 0 where
    pub executed : Effects
    pub steps : executed_from (record { factors = factors; limits = limits; initial_rules = None }) 0 [] all
        ≡ executed_from (record { factors = factors; limits = limits; initial_rules = None }) 0 executed rest
    pub none_open : open_states executed ≡ 0
    pub keeps : (initial : Rules) → Keeps columns initial kept (survivors 0 executed)

  -- nothing of them
  pub reached-none : (limits : Limits) (factors : Factors) (all : Instructions ℕ) (kept : SimpleRow) → ((initial : Rules) → Keeps columns initial kept []) → Reached limits factors all all kept
  reached-none limits factors all kept keeps = record { executed = []; steps = refl; none_open = refl; keeps = keeps }

  -- one more
  pub reached-more : {T : Type 0} (number : T → ℕ) (limits : Limits) → HasRoomForParts limits → (factors : Factors) (all before rest : Instructions ℕ) (i : CallFrameInstruction T) (kept new : SimpleRow) → before ≡ Ok (instruction_as number i) ∷ rest
      → Sets columns number factors i kept new → Reached limits factors all before kept → Reached limits factors all rest new
  reached-more number limits room factors all before rest i kept new is sets reached =
      let frame : InstructionContext ℕ = record { factors = factors; limits = limits; initial_rules = None } in
      let set = sets limits reached.executed room reached.none_open reached.keeps in
      record {
        executed = set.0 ∷ reached.executed;
        steps = reached.steps ∙ ap (executed_from frame 0 reached.executed) is ∙ ap (executed-by frame reached.executed rest) set.1;
        none_open = set.2;
        keeps = set.3;
      }
