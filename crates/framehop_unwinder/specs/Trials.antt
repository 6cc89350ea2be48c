-- What a module's attempt answers and leaves, before any rule is executed.
use Rattle.std.specs.Prelude.{◌≡◌, ℕ, Bool, true, false, Option, Some, None, Result, Ok, Err, IfErr}
use Rattle.framehop_registers.specs.Callback.{Words, OverWords}
use Rattle.framehop_registers.specs.declared.error.Error.{Error}
use Rattle.framehop_registers.specs.declared.error.Error.TheVariants.{CouldNotReadStack, FramepointerUnwindingMovedBackwards, DidNotAdvance, IntegerOverflow, ReturnAddressIsNull, OutOfMemory}
use Rattle.framehop_rules.specs.Outcome.{Outcome, Caller, IsStep, StaysUnlessAnswered}
use Rattle.framehop_rules.specs.UnwindResults.{KeepsUnlessDirect}
use Rattle.framehop_unwinder.specs.Attempt.{Attempt, Says, Evaluates, SaysNothing}
use Rattle.framehop_unwinder.specs.RulesKept.{rule_of_attempt}
use Rattle.framehop_unwinder.specs.declared.unwinding.UnwindFailure.{UnwindFailure}
use Rattle.framehop_unwinder.specs.declared.unwinding.UnwindFailure.TheVariants as failure
use Rattle.framehop_rules.specs.declared.unwind_result.UnwindResult.{UnwindResult}
use Rattle.framehop_rules.specs.declared.unwind_result.UnwindResult.TheVariants.{ExecRule, Uncacheable}

-- an answer and the registers with it
abbrev pub Trial : Type 0 → Type 0 → Type 0
Trial Rule Registers = Result (UnwindResult Rule) UnwindFailure × Registers

-- the caller of this frame, or none
abbrev pub trial_of_caller : {Rule Registers : Type 0} → Registers → Option (Caller Registers) → Trial Rule Registers
trial_of_caller registers (Some caller) = (Ok (Uncacheable caller.return_address), caller.registers)
trial_of_caller registers None = (Err failure.OfFrame, registers)

-- what an attempt answers, with the registers that it leaves
abbrev pub trial : {Rule Registers : Type 0} → Registers → Words → Attempt Rule Registers → Trial Rule Registers
trial registers words (Says rule) = (Ok (ExecRule rule), registers)
trial registers words (Evaluates caller) = trial_of_caller registers (caller registers words)
trial registers words SaysNothing = (Err failure.OfModule, registers)

-- the attempt is out of memory
abbrev pub has_wanted : {Rule : Type 0} → Result (UnwindResult Rule) UnwindFailure → Bool
has_wanted (Ok answer) = false
has_wanted (Err failure.OfModule) = false
has_wanted (Err failure.OfFrame) = false
has_wanted (Err failure.OutOfMemory) = true

-- the rule that an answer has kept
abbrev pub rule_of_result : {Rule : Type 0} → Rule → Result (UnwindResult Rule) UnwindFailure → Option Rule
rule_of_result fallback (Ok (ExecRule rule)) = Some rule
rule_of_result fallback (Ok (Uncacheable return_address)) = None
rule_of_result fallback (Err failure.OfModule) = Some fallback
rule_of_result fallback (Err failure.OfFrame) = None
rule_of_result fallback (Err failure.OutOfMemory) = None

-- A call answers an attempt, unless it is out of memory: for all words of the stack, the answer and the registers are those of the
-- attempt's trial; the rule that the answer has kept is the attempt's; and only the answer of a caller changes the registers.
pub record AnswersAttempt {Stack Rule Registers : Type 0} (step : Stack → ℕ → Result ℕ (Unit {0}) → Stack → Type 0) (old_stack new_stack : Stack)
    (old new : Registers) (result : Result (UnwindResult Rule) UnwindFailure) (attempt : Attempt Rule Registers) : Type 0 where
  pub answer : OverWords step old_stack new_stack (λ words. has_wanted result ≡ false → (result, new) ≡ trial old words attempt)
  pub kept : (fallback : Rule) → has_wanted result ≡ false → rule_of_result fallback result ≡ rule_of_attempt fallback attempt
  pub registers : KeepsUnlessDirect result old new

-- the step is out of memory
abbrev pub wants_memory : {A : Type 0} → Result A Error → Bool
wants_memory (Ok answer) = false
wants_memory (Err (CouldNotReadStack address)) = false
wants_memory (Err FramepointerUnwindingMovedBackwards) = false
wants_memory (Err DidNotAdvance) = false
wants_memory (Err IntegerOverflow) = false
wants_memory (Err ReturnAddressIsNull) = false
wants_memory (Err OutOfMemory) = true

-- unless it is out of memory, a step is the one of this outcome
abbrev pub StepsAs : {Registers : Type 0} → Result (Option ℕ) Error → Registers → Registers → Outcome (Caller Registers) → Type 0
StepsAs result old new outcome = wants_memory result ≡ false → IsStep result old new outcome

-- unless it is out of memory, a step that took the callback from one state to another is the one that is judged of the registers and the words
abbrev pub StepsOver : {Stack Registers : Type 0} → (Stack → ℕ → Result ℕ (Unit {0}) → Stack → Type 0) → Stack → Stack
    → (Registers → Words → Outcome (Caller Registers)) → Result (Option ℕ) Error → Registers → Registers → Type 0
StepsOver step first last judged result old new = OverWords step first last (λ words. StepsAs result old new (judged old words))

-- an error of a step: one of a rule's, or that it is out of memory
abbrev pub IsOfStep : Error → Type 0
IsOfStep (CouldNotReadStack address) = Unit {0}
IsOfStep FramepointerUnwindingMovedBackwards = Unit {0}
IsOfStep DidNotAdvance = Unit {0}
IsOfStep IntegerOverflow = Unit {0}
IsOfStep ReturnAddressIsNull = ⊥
IsOfStep OutOfMemory = Unit {0}

-- A step that gives no caller leaves the registers as they were, and fails by an error of a step alone.
pub record StaysUnlessStepped {Registers : Type 0} (result : Result (Option ℕ) Error) (old new : Registers) : Type 0 where
  pub registers : StaysUnlessAnswered result old new
  pub errors : IfErr result IsOfStep
