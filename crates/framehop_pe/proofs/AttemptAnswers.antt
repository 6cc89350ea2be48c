-- What a step that undoes codes answers.
use Rattle.std.proofs.Common.{◌≡◌, ◌∙◌, ℕ, refl, sym, subst}
use Rattle.std.specs.Prelude.{Option, Some, None, Result, Ok, Err}
use Rattle.framehop_registers.specs.Callback.{OverWords, Words}
use Rattle.framehop_registers.proofs.Laws.{over_none, over_weaker}
use Rattle.framehop_registers.specs.declared.x86_64.unwindregs.UnwindRegsX86_64.{UnwindRegsX86_64}
use Rattle.framehop_rules.specs.Sequences.{IsRuleFor}
use Rattle.framehop_rules.specs.declared.unwind_result.UnwindResult.{UnwindResult}
use Rattle.framehop_rules.specs.declared.unwind_result.UnwindResult.TheVariants.{ExecRule, Uncacheable}
use Rattle.framehop_rules.specs.declared.x86_64.unwind_rule.UnwindRuleX86_64.{UnwindRuleX86_64}
use Rattle.framehop_rules.specs.declared.x86_64.unwind_rule.UnwindRuleX86_64.TheVariants.{JustReturn}
use Rattle.framehop_errors.specs.declared.pe.PeUnwinderError.{PeUnwinderError}
use Rattle.framehop_pe_codes.specs.Machine.{PeCaller}
use Rattle.framehop_pe_codes.specs.MachineViews.{IsStepTo}
use Rattle.framehop_pe_codes.specs.Refusals.{IsOfFile, IsOfStack, PeResult}
use Rattle.framehop_pe.specs.PartRules.{rule_of_parts}
use Rattle.framehop_pe.specs.PartViews.{IsFoundRead, IsRead}
use Rattle.framehop_pe.specs.UndoneViews.{Undoes}
use Rattle.framehop_pe.specs.declared.x86_64.pe.Undoing.{Undoing}
use Rattle.framehop_pe.specs.declared.x86_64.pe.Undoing.TheVariants as undoing_
use Rattle.framehop_pe.specs.PeAttempts.{AnswersPe, PeTrial, trial_of_caller}
use Rattle.framehop_pe.specs.PeSteps.{attempt_by, attempt_if_read, attempt_to_undo}
use Rattle.framehop_pe.specs.ToUndo.{Leaf, ToUndo, caller_of, parts_of}
use Rattle.framehop_pe.proofs.PartRules.{one-rule}

module _ {S : Type 0} {step : S → ℕ → Result ℕ (Unit {0}) → S → Type 0} where
  -- what is refused
  pub refused-answers : (state : S) (registers : UnwindRegsX86_64) (found : PeResult ToUndo) (e : PeUnwinderError) → found ≡ Err e → IsOfFile e
      → AnswersPe step state state registers registers (Err e) (attempt_if_read found)
  refused-answers state registers found e is of_file =
      subst (λ (f : PeResult ToUndo). AnswersPe step state state registers registers (Err e) (attempt_if_read f)) (sym is)
      (record { answer = over_none (λ words. refl); is_of = (refl, of_file) })

  -- what is read, by what is undone
  pub undone-answers : (old new : S) (before after : UnwindRegsX86_64) (result : PeResult (UnwindResult UnwindRuleX86_64)) (found : PeResult ToUndo) (undoing : Undoing)
      → IsFoundRead found undoing → Undoes step old new before after result undoing → AnswersPe step old new before after result (attempt_if_read found)
  undone-answers old new before after result found undoing (undo, read, is) says =
      subst (λ (f : PeResult ToUndo). AnswersPe step old new before after result (attempt_if_read f)) (sym is) (says undo read)

  -- what is undone is the same
  pub undo-as : (old new : S) (before after : UnwindRegsX86_64) (result : PeResult (UnwindResult UnwindRuleX86_64)) (undo other : ToUndo) → undo ≡ other
      → AnswersPe step old new before after result (attempt_to_undo other) → AnswersPe step old new before after result (attempt_to_undo undo)
  undo-as old new before after result undo other is answers =
      subst (λ (u : ToUndo). AnswersPe step old new before after result (attempt_to_undo u)) (sym is) answers

  -- a return
  pub leaf-answers : (state : S) (registers : UnwindRegsX86_64) (undoing : Undoing) → undoing ≡ undoing_.Leaf → Undoes step state state registers registers (Ok (ExecRule JustReturn)) undoing
  unfolding rule_of_parts
  leaf-answers state registers undoing is undo read =
      let leaf : undo ≡ Leaf = subst (λ (u : Undoing). IsRead u undo) is read in
      undo-as state state registers registers (Ok (ExecRule JustReturn)) undo Leaf leaf (record { answer = over_none (λ words. refl); is_of = refl })

module _ {S : Type 0} {step : S → ℕ → Result ℕ (Unit {0}) → S → Type 0} (undo : ToUndo) where
  -- the rule
  pub rule-answers : (state : S) (registers : UnwindRegsX86_64) (found : Option UnwindRuleX86_64) (rule : UnwindRuleX86_64) → IsRuleFor (parts_of undo) found → found ≡ Some rule
      → AnswersPe step state state registers registers (Ok (ExecRule rule)) (attempt_to_undo undo)
  rule-answers state registers found rule of is =
      subst (λ (o : Option UnwindRuleX86_64). AnswersPe step state state registers registers (Ok (ExecRule rule)) (attempt_by undo o)) (sym is ∙ one-rule (parts_of undo) found of)
      (record { answer = over_none (λ words. refl); is_of = refl })

  module _ (found : Option UnwindRuleX86_64) (of : IsRuleFor (parts_of undo) found) (is : found ≡ None) (old new : S) (before after : UnwindRegsX86_64) where
    -- the caller
    pub caller-answers : (to : ℕ) → OverWords step old new (λ words. IsStepTo (Ok to) before after (caller_of undo before words))
        → AnswersPe step old new before after (Ok (Uncacheable to)) (attempt_to_undo undo)
    caller-answers to says =
        subst (λ (o : Option UnwindRuleX86_64). AnswersPe step old new before after (Ok (Uncacheable to)) (attempt_by undo o)) (sym is ∙ one-rule (parts_of undo) found of)
        (record { answer = over_weaker says (λ words said. by words (caller_of undo before words) said); is_of = tt })
      where
        by : Words → (caller : PeResult PeCaller) → IsStepTo (Ok to) before after caller → (let t : PeTrial UnwindRuleX86_64 UnwindRegsX86_64 = (Ok (Uncacheable to), after) in t) ≡ trial_of_caller before caller
        by words (Ok (there, left)) said = let same : to ≡ there = (let e = said.answer in cc) in let kept : after ≡ left = said.registers in rw (same, kept) refl
        by words (Err e) said = let e = said.answer in cc

    -- its refusal
    pub caller-refused : (e : PeUnwinderError) → IsOfStack e → OverWords step old new (λ words. IsStepTo (Err e) before after (caller_of undo before words))
        → AnswersPe step old new before after (Err e) (attempt_to_undo undo)
    caller-refused e of_stack says =
        subst (λ (o : Option UnwindRuleX86_64). AnswersPe step old new before after (Err e) (attempt_by undo o)) (sym is ∙ one-rule (parts_of undo) found of)
        (record { answer = over_weaker says (λ words said. by words (caller_of undo before words) said); is_of = of_stack })
      where
        by : Words → (caller : PeResult PeCaller) → IsStepTo (Err e) before after caller → (let t : PeTrial UnwindRuleX86_64 UnwindRegsX86_64 = (Err e, after) in t) ≡ trial_of_caller before caller
        by words (Ok (there, left)) said = let e = said.answer in cc
        by words (Err f) said = let same : e ≡ f = (let g = said.answer in cc) in let kept : after ≡ before = said.registers in rw (same, kept) refl
