-- Steps by a row that is taken whole, and steps of modules without one.
use Rattle.std.proofs.Common.{◌≡◌, ◌≢◌, ℕ, Bool, Option, Some, None, Result, sym, subst}
use Rattle.framehop_rules.specs.declared.unwind_result.UnwindResult.{UnwindResult}
use Rattle.framehop_unwinder.specs.Attempt.{Attempt}
use Rattle.framehop_unwinder.specs.Trials.{AnswersAttempt}
use Rattle.framehop_unwinder.specs.declared.unwinding.UnwindFailure.{UnwindFailure}
use Rattle.framehop_whole_modules.specs.Attempts.{attempt_with, plain_attempt}
use Rattle.framehop_whole_modules.specs.Views.{plain_answer, plain_registers}
use Rattle.framehop_whole_modules.proofs.PlainSteps.{beside, plain-answers}
use Rattle.framehop_whole_steps.specs.Attempts.{attempt_by_row}
use Rattle.framehop_whole_steps.specs.Carrying.{Carrying}
use Rattle.framehop_whole_steps.specs.FoundRows.{FoundRow}
use Rattle.framehop_whole_steps.specs.Views.{Answer}
use Rattle.framehop_whole_steps.specs.declared.registers.WholeRegs.{WholeRegs}

module _ {Stack Rule Registers : Type 0} (step : Stack → ℕ → Result ℕ (Unit {0}) → Stack → Type 0) (from to : Stack)
    (c : Carrying Registers) (first : Bool) (row : Option FoundRow) (plain : Attempt Rule Registers) where
  -- by the row that was found
  pub by-row : (old new : WholeRegs Registers) (result : Answer Rule) (found : FoundRow) → Some found ≡ row
      → AnswersAttempt step from to old new result (attempt_by_row c first found)
      → AnswersAttempt step from to old new result (attempt_with c first row plain)
  by-row old new result found is answers =
      subst (λ (r : Option FoundRow). AnswersAttempt step from to old new result (attempt_with c first r plain)) is answers

  -- as the module answers without it
  pub without-row : (one two : Rule) → one ≢ two → (old after : WholeRegs Registers) (new : Registers)
      (answer : Result (UnwindResult Rule) UnwindFailure) (result : Answer Rule) → None ≡ row
      → result ≡ plain_answer answer → after ≡ plain_registers answer (beside old.others new)
      → AnswersAttempt step from to old.regs new answer plain
      → AnswersAttempt step from to old after result (attempt_with c first row plain)
  without-row one two apart old after new answer result none is left answers =
      let there = plain-answers step from to one two apart old new answer plain answers in
      subst (λ (r : Option FoundRow). AnswersAttempt step from to old after result (attempt_with c first r plain)) none
      (subst (λ (x : Answer Rule). AnswersAttempt step from to old after x (plain_attempt plain)) (sym is)
      (subst (λ (x : WholeRegs Registers). AnswersAttempt step from to old x (plain_answer answer) (plain_attempt plain)) (sym left) there))
