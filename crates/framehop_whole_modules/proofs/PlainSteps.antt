-- Steps that take no row whole, with the registers beside: as they are without them.
use Rattle.std.proofs.Common.{◌≡◌, ◌≢◌, ℕ, false, List, Option, Some, None, Result, Ok, Err, refl, sym, ap, ◌∙◌}
use Rattle.std.specs.Prelude.{option_map}
use Rattle.framehop_registers.specs.Callback.{Words}
use Rattle.framehop_registers.proofs.Laws.{over_weaker}
use Rattle.framehop_rules.specs.Outcome.{Caller}
use Rattle.framehop_rules.specs.UnwindResults.{KeepsUnlessDirect}
use Rattle.framehop_rules.specs.declared.unwind_result.UnwindResult.{UnwindResult}
use Rattle.framehop_rules.specs.declared.unwind_result.UnwindResult.TheVariants.{ExecRule, Uncacheable}
use Rattle.framehop_unwinder.specs.Attempt.{Attempt, Says, Evaluates, SaysNothing}
use Rattle.framehop_unwinder.specs.RulesKept.{rule_of_attempt}
use Rattle.framehop_unwinder.specs.Trials.{AnswersAttempt, Trial, trial, trial_of_caller, has_wanted, rule_of_result}
use Rattle.framehop_unwinder.specs.declared.unwinding.UnwindFailure.{UnwindFailure}
use Rattle.framehop_unwinder.specs.declared.unwinding.UnwindFailure.TheVariants as failure
use Rattle.framehop_whole_modules.specs.Attempts.{plain_attempt}
use Rattle.framehop_whole_steps.specs.Rules.{plain_caller}
use Rattle.framehop_whole_modules.specs.Views.{plain_answer, plain_registers}
use Rattle.framehop_whole_steps.specs.declared.registers.WholeRegs.{WholeRegs}
use Rattle.framehop_whole_steps.specs.declared.rule.WholeRule.{WholeRule}
use Rattle.framehop_whole_steps.specs.declared.rule.WholeRule.TheVariants as whole

-- with the others that are known
abbrev pub beside : {Registers : Type 0} → Option (List (Option ℕ)) → Registers → WholeRegs Registers
beside others regs = record { regs = regs; others = others }

-- it is out of memory as without them
plain-wanted : {Rule : Type 0} (answer : Result (UnwindResult Rule) UnwindFailure) → has_wanted (plain_answer answer) ≡ has_wanted answer
plain-wanted (Ok (ExecRule rule)) = refl
plain-wanted (Ok (Uncacheable to)) = refl
plain-wanted (Err failure.OfModule) = refl
plain-wanted (Err failure.OfFrame) = refl
plain-wanted (Err failure.OutOfMemory) = refl

-- each rule can't be the same
not-all : {Rule : Type 0} (one two rule : Rule) → one ≢ two → Some one ≡ Some rule → Some two ≡ Some rule → ⊥
not-all one two rule apart is other = apart cc

module _ {Rule Registers : Type 0} where
  abbrev whole-trial : Option (List (Option ℕ)) → Trial Rule Registers → Trial (WholeRule Rule) (WholeRegs Registers)
  whole-trial others (answer, regs) = (plain_answer answer, plain_registers answer (beside others regs))

  of-caller : (others : Option (List (Option ℕ))) (regs : Registers) (caller : Option (Caller Registers))
      → whole-trial others (trial_of_caller regs caller) ≡ trial_of_caller (beside others regs) (option_map plain_caller caller)
  of-caller others regs (Some caller) = refl
  of-caller others regs None = refl

  of-attempt : (others : Option (List (Option ℕ))) (regs : Registers) (words : Words) (a : Attempt Rule Registers)
      → whole-trial others (trial regs words a) ≡ trial (beside others regs) words (plain_attempt a)
  of-attempt others regs words (Says rule) = refl
  of-attempt others regs words (Evaluates caller) = of-caller others regs (caller regs words)
  of-attempt others regs words SaysNothing = refl

  plain-keeps : (others : Option (List (Option ℕ))) (answer : Result (UnwindResult Rule) UnwindFailure) (old new : Registers)
      → KeepsUnlessDirect answer old new → KeepsUnlessDirect (plain_answer answer) (beside others old) (plain_registers answer (beside others new))
  plain-keeps others (Ok (ExecRule rule)) old new same = ap (beside others) same
  plain-keeps others (Ok (Uncacheable to)) old new same = tt
  plain-keeps others (Err why) old new same = ap (beside others) same

  -- what is kept is the same rule
  plain-kept : (one two : Rule) → one ≢ two → (answer : Result (UnwindResult Rule) UnwindFailure) (a : Attempt Rule Registers)
      → ((fallback : Rule) → has_wanted answer ≡ false → rule_of_result fallback answer ≡ rule_of_attempt fallback a)
      → (fallback : WholeRule Rule) → has_wanted (plain_answer answer) ≡ false → rule_of_result fallback (plain_answer answer) ≡ rule_of_attempt fallback (plain_attempt a)
  plain-kept one two apart (Ok (ExecRule r)) (Says rule) is fallback unwanted = ap (option_map whole.Plain) (is one refl)
  plain-kept one two apart (Ok (ExecRule r)) (Evaluates caller) is fallback unwanted = let never : Some r ≡ None = is one refl in cc
  plain-kept one two apart (Ok (ExecRule r)) SaysNothing is fallback unwanted =
      absurd (not-all one two r apart (sym (is one refl)) (sym (is two refl)))
  plain-kept one two apart (Ok (Uncacheable to)) (Says rule) is fallback unwanted = let never : None ≡ Some rule = is one refl in cc
  plain-kept one two apart (Ok (Uncacheable to)) (Evaluates caller) is fallback unwanted = refl
  plain-kept one two apart (Ok (Uncacheable to)) SaysNothing is fallback unwanted = let never : None ≡ Some one = is one refl in cc
  plain-kept one two apart (Err failure.OfModule) (Says rule) is fallback unwanted =
      absurd (not-all one two rule apart (is one refl) (is two refl))
  plain-kept one two apart (Err failure.OfModule) (Evaluates caller) is fallback unwanted = let never : Some one ≡ None = is one refl in cc
  plain-kept one two apart (Err failure.OfModule) SaysNothing is fallback unwanted = refl
  plain-kept one two apart (Err failure.OfFrame) (Says rule) is fallback unwanted = let never : None ≡ Some rule = is one refl in cc
  plain-kept one two apart (Err failure.OfFrame) (Evaluates caller) is fallback unwanted = refl
  plain-kept one two apart (Err failure.OfFrame) SaysNothing is fallback unwanted = let never : None ≡ Some one = is one refl in cc
  plain-kept one two apart (Err failure.OutOfMemory) a is fallback unwanted = cc

  -- an attempt that is answered without them is answered with them
  pub plain-answers : {Stack : Type 0} (step : Stack → ℕ → Result ℕ (Unit {0}) → Stack → Type 0) (from to : Stack) (one two : Rule) → one ≢ two
      → (old : WholeRegs Registers) (new : Registers) (answer : Result (UnwindResult Rule) UnwindFailure) (a : Attempt Rule Registers)
      → AnswersAttempt step from to old.regs new answer a
      → AnswersAttempt step from to old (plain_registers answer (beside old.others new)) (plain_answer answer) (plain_attempt a)
  plain-answers step from to one two apart old new answer a answers = record {
    answer = over_weaker answers.answer (λ words is unwanted.
        ap (whole-trial old.others) (is (sym (plain-wanted answer) ∙ unwanted)) ∙ of-attempt old.others old.regs words a);
    kept = plain-kept one two apart answer a answers.kept;
    registers = plain-keeps old.others answer old.regs new answers.registers;
  }
