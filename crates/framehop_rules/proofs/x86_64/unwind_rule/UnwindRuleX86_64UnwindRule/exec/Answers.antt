use Rattle.std.proofs.Common.{◌≡◌, ◌∙◌, ℕ, Bool, ap, sym, refl, subst}
use Rattle.std.specs.Prelude.{Option, Result}
use Rattle.framehop_registers.specs.declared.error.Error.{Error}
use Rattle.framehop_registers.specs.declared.x86_64.unwindregs.UnwindRegsX86_64.{UnwindRegsX86_64}
use Rattle.framehop_registers.proofs.Laws.{over_weaker}
use Rattle.framehop_rules.specs.Outcome.{Outcome, Caller, IsStep, and_then, answer_of_outcome, registers_after}
use Rattle.framehop_rules.specs.RuleMeaning.{moves, returned_caller, rule_meaning}
use Rattle.framehop_rules.specs.RuleReads.{reads_after_pops, rule_reads}
use Rattle.framehop_rules.specs.declared.x86_64.unwind_rule.UnwindRuleX86_64.{UnwindRuleX86_64}
use Rattle.framehop_rules.specs.declared.x86_64.unwind_rule.UnwindRuleX86_64.TheVariants.{EndOfStack, JustReturn, JustReturnIfFirstFrameOtherwiseFp, OffsetSp, OffsetSpAndRestoreBp, UseFramePointer, OffsetSpAndPopRegisters}
use Rattle.framehop_registers.specs.Callback.{Words, Leads}
use Rattle.framehop_rules.proofs.x86_64.unwind_rule.UnwindRuleX86_64UnwindRule.exec.Goals as goal
use Rattle.framehop_rules.proofs.x86_64.unwind_rule.UnwindRuleX86_64UnwindRule.exec.Given as given

step-is : {result : Result (Option ℕ) Error} {old new : UnwindRegsX86_64} {outcome meaning : Outcome (Caller UnwindRegsX86_64)}
    → outcome ≡ meaning → IsStep result old new outcome → IsStep result old new meaning
step-is is step = record { answer = step.answer ∙ ap answer_of_outcome is; registers = step.registers ∙ ap (registers_after _) is }

-- a rule that pops no registers begins with its moves
record WithoutPops (rule : UnwindRuleX86_64) (is_first : Bool) (registers : UnwindRegsX86_64) (words : Words) : Type 0 where
  meaning : and_then (moves rule is_first registers words) (returned_caller registers words) ≡ rule_meaning rule is_first registers words
  reads : reads_after_pops rule is_first registers words ≡ rule_reads rule is_first registers words

without_pops : (rule : UnwindRuleX86_64) (is_first : Bool) (registers : UnwindRegsX86_64)
    → ((x count number : ℕ) → rule ≡ OffsetSpAndPopRegisters x count number → ⊥) → (words : Words) → WithoutPops rule is_first registers words
without_pops EndOfStack is_first registers other words = record { meaning = refl; reads = refl }
without_pops JustReturn is_first registers other words = record { meaning = refl; reads = refl }
without_pops JustReturnIfFirstFrameOtherwiseFp is_first registers other words = record { meaning = refl; reads = refl }
without_pops (OffsetSp x) is_first registers other words = record { meaning = refl; reads = refl }
without_pops (OffsetSpAndRestoreBp x y) is_first registers other words = record { meaning = refl; reads = refl }
without_pops UseFramePointer is_first registers other words = record { meaning = refl; reads = refl }
without_pops (OffsetSpAndPopRegisters x count number) is_first registers other words = absurd (other x count number refl)

pub returns-in-OffsetSpAndPopRegisters-clause-step :
    goal.returns-in-OffsetSpAndPopRegisters-clause-step
returns-in-OffsetSpAndPopRegisters-clause-step g c =
    let a = c.args in
    let o = c.in-OffsetSpAndPopRegisters in
    over_weaker c.pop_and_return.ensures.step (λ words step.
    step-is (sym (ap (λ r. rule_meaning r a.is_first_frame a.regs.now words) o.is)) step)

pub returns-in-OffsetSpAndPopRegisters-clause-order :
    goal.returns-in-OffsetSpAndPopRegisters-clause-order
returns-in-OffsetSpAndPopRegisters-clause-order g c = λ words answers.
    let a = c.args in
    subst (λ rule. Leads (given.F-step g) a.read_stack.now (rule_reads rule a.is_first_frame a.regs.now words) c.pop_and_return.new.read_stack)
    (sym c.in-OffsetSpAndPopRegisters.is) (c.pop_and_return.ensures.order words answers)

pub returns-in_default : goal.returns-in_default
returns-in_default g c =
    let a = c.args in
    let call = c.return_to_caller in
    let without : (words : Words) → WithoutPops a.self a.is_first_frame a.regs.now words =
    without_pops a.self a.is_first_frame a.regs.now c.in_default.not-OffsetSpAndPopRegisters in
    record {
      callable = call.ensures.callable;
      step = over_weaker call.ensures.step (λ words step. step-is (without words).meaning step);
      order = λ words answers.
          subst (λ reads. Leads (given.F-step g) a.read_stack.now reads call.new.read_stack) (without words).reads (call.ensures.order words answers);
      stays = call.ensures.stays;
      refusals = call.ensures.refusals;
    }
