-- Steps by a module's data as contracts see them.
use Rattle.std.specs.Prelude.{ℕ, Bool, Option, Some, None, Result, Ok, Err}
use Rattle.dwarf_frame_rows.specs.Row.{Row}
use Rattle.framehop_rules.specs.declared.unwind_result.UnwindResult.{UnwindResult}
use Rattle.framehop_rules.specs.declared.unwind_result.UnwindResult.TheVariants.{ExecRule}
use Rattle.framehop_unwinder.specs.Memory.{WantsMemoryOnlyIf}
use Rattle.framehop_unwinder.specs.Trials.{AnswersAttempt, has_wanted}
use Rattle.framehop_unwinder.specs.declared.unwinding.UnwindFailure.{UnwindFailure}
use Rattle.framehop_unwinder.specs.declared.unwinding.UnwindFailure.TheVariants.{OfModule}
use Rattle.framehop_rows.specs.RowMeanings.{RowMeanings}
use Rattle.framehop.specs.Attempts.{EvaluatesByMethod, attempt_by_method}
use Rattle.framehop_loads.specs.StepLimits.{StepLimits}
use Rattle.framehop.specs.Methods.{Method}

-- A step by a module's data, which took the callback from `old` to `new` and the registers from `before` to `after`, answers the attempt
-- by a method, and memory runs out only for an expression.
pub record AnswersMethod {Rule Registers S : Type 0} (step : S → ℕ → Result ℕ (Unit {0}) → S → Type 0) (old new : S)
    (before after : Registers) (result : Result (UnwindResult Rule) UnwindFailure) (m : RowMeanings Rule Registers)
    (meets : Row ℕ → Type 0) (limits : StepLimits) (takes_memory first : Bool) (method : Method Rule Registers) : Type 0 where
  pub answer : AnswersAttempt step old new before after result (attempt_by_method m limits first method)
  pub memory : WantsMemoryOnlyIf takes_memory (has_wanted result)
      (EvaluatesByMethod meets limits.rows m.vendor method)

-- the result of a step, or the rule of a way where the module says nothing
abbrev pub result_or_way : {Rule : Type 0} → Result (UnwindResult Rule) UnwindFailure → Option Rule → Result (UnwindResult Rule) UnwindFailure
result_or_way said None = said
result_or_way (Err OfModule) (Some rule) = Ok (ExecRule rule)
result_or_way said (Some rule) = said
