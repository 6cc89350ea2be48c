-- The line of a step, from the result of a session's step.
use Rattle.std.proofs.Common.{◌≡◌, ◌≢◌, List, Option, Result, Ok, Err, ℕ, refl, ◌∙◌, ap}
use Rattle.framehop_registers.specs.Callback.{Words}
use Rattle.framehop_registers.specs.declared.error.Error.{Error}
use Rattle.framehop_registers.specs.declared.error.Error.TheVariants.{CouldNotReadStack, FramepointerUnwindingMovedBackwards, DidNotAdvance, IntegerOverflow, ReturnAddressIsNull, OutOfMemory}
use Rattle.framehop_rules.specs.Outcome.{IsStep, answer_of_outcome}
use Rattle.framehop_unwinder.specs.Attempt.{Meanings}
use Rattle.framehop_unwinder.specs.Frames.{Frame}
use Rattle.framehop_unwinder.specs.Judge.{judge}
use Rattle.framehop_unwinder.specs.Modules.{Loaded}
use Rattle.framehop_unwinder.specs.Trials.{wants_memory}
use Rattle.std.specs.Prelude.{false}
use Rattle.unwind_run_program.specs.Lines.{step_line, outcome_line}

-- a result other than out of memory
pub not_wanted : (answer : Result (Option ℕ) Error) → answer ≢ Err OutOfMemory → wants_memory answer ≡ false
not_wanted (Ok address) other = refl
not_wanted (Err (CouldNotReadStack address)) other = refl
not_wanted (Err FramepointerUnwindingMovedBackwards) other = refl
not_wanted (Err DidNotAdvance) other = refl
not_wanted (Err IntegerOverflow) other = refl
not_wanted (Err ReturnAddressIsNull) other = refl
not_wanted (Err OutOfMemory) other = absurd (other refl)

-- the line of a step's result is that of its judgment
pub line_judged : {Data Rule Registers : Type 0} (m : Meanings Data Rule Registers) (text : Registers → List ℕ) (modules found : List (Loaded Data)) (frame given_frame : Frame) (regs given left : Registers) (words : Words) (answer : Result (Option ℕ) Error)
    → found ≡ modules → given_frame ≡ frame → given ≡ regs → IsStep answer given left (judge m found given_frame given words)
    → step_line text answer left ≡ outcome_line text regs (judge m modules frame regs words)
line_judged {Data} {Rule} {Registers} m text modules found frame given_frame regs given left words answer same_modules same_frame same_regs stepped =
    ap (λ (a : Result (Option ℕ) Error). step_line text a left) stepped.answer
    ∙ ap (λ (r : Registers). step_line text (answer_of_outcome (judge m found given_frame given words)) r) stepped.registers
    ∙ ap (λ (ms : List (Loaded Data)). outcome_line text given (judge m ms given_frame given words)) same_modules
    ∙ ap (λ (f : Frame). outcome_line text given (judge m modules f given words)) same_frame
    ∙ ap (λ (r : Registers). outcome_line text r (judge m modules frame r words)) same_regs
