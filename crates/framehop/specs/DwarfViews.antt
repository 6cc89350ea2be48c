-- Unwinding by call frames as contracts see it.
use Rattle.std.specs.Prelude.{ℕ, Bool, Option, Result, Err, ◌≡◌, IfOk, IfErr}
use Rattle.dwarf_frame_rows.specs.Effects.{Limits}
use Rattle.dwarf_frame_rows.specs.Row.{Row}
use Rattle.framehop_rules.specs.declared.unwind_result.UnwindResult.{UnwindResult}
use Rattle.framehop_rows.specs.RowAttempt.{AnswersRow}
use Rattle.framehop_rows.specs.RowMeanings.{RowMeanings}
use Rattle.framehop_errors.specs.declared.dwarf.DwarfUnwinderError.{DwarfUnwinderError}
use Rattle.framehop_errors.specs.declared.dwarf.DwarfUnwinderError.TheVariants.{OutOfMemory}
use Rattle.framehop.specs.Coverage.{Coverage, EvaluatesExpression, IsErrorOf, IsKnown, covered_by_fde, covered_by_scan, row_attempt_by}
use Rattle.framehop_index.specs.SectionTypes.{frame_section_lent}
use Rattle.framehop.specs.declared.dwarf.DwarfUnwinder.{DwarfUnwinder}

-- A step by call frames, which took the callback from `old` to `new` and the registers from `before` to `after`, at an address that is
-- covered so: it answers the attempt by the coverage; there is an answer only if the FDE is known, and an error is one of that
-- coverage's; and memory runs out only for an expression, where `meets` says which rows evaluate one.
pub record AnswersCoverage {Rule Registers S : Type 0} (step : S → ℕ → Result ℕ (Unit {0}) → S → Type 0) (old new : S)
    (before after : Registers) (result : Result (UnwindResult Rule) DwarfUnwinderError) (m : RowMeanings Rule Registers)
    (meets : Row ℕ → Type 0) (first : Bool) (values : Option ℕ) (coverage : Coverage) : Type 0 where
  pub row : AnswersRow step old new before after result (row_attempt_by m first values coverage)
  pub answer : IfOk result (λ _. IsKnown coverage)
  pub error : IfErr result (IsErrorOf coverage)
  pub expression : result ≡ Err OutOfMemory → EvaluatesExpression meets coverage

-- A call of a step by call frames: how its callback answers, the callback before and after it, likewise the registers, and what it
-- returned.
pub record StepCall (Rule Registers S : Type 0) : Type 1 where
  pub step : S → ℕ → Result ℕ (Unit {0}) → S → Type 0
  pub old : S
  pub new : S
  pub before : Registers
  pub after : Registers
  pub result : Result (UnwindResult Rule) DwarfUnwinderError

abbrev pub did : {Rule Registers S : Type 0} → (S → ℕ → Result ℕ (Unit {0}) → S → Type 0) → S → S → Registers → Registers
    → Result (UnwindResult Rule) DwarfUnwinderError → StepCall Rule Registers S
did step old new before after result =
    record { step = step; old = old; new = new; before = before; after = after; result = result }

module _ {Rule Registers S A C L K : Type 0} (call : StepCall Rule Registers S) (m : RowMeanings Rule Registers) (meets : Row ℕ → Type 0)
    (limits : Limits) (values : Option ℕ) (unwinder : DwarfUnwinder A C L K) (first : Bool) (relative : ℕ) where
  -- A step of an unwinder by call frames, within these limits: by the FDE at an offset of its section.
  abbrev pub AnswersFde : (offset : ℕ) → Type 0
  AnswersFde offset =
      AnswersCoverage call.step call.old call.new call.before call.after call.result m meets first values
      (covered_by_fde limits m.vendor (frame_section_lent unwinder.bases unwinder.section) unwinder.base_svma relative offset)

  -- By a scan of its section.
  abbrev pub AnswersScan : Type 0
  AnswersScan =
      AnswersCoverage call.step call.old call.new call.before call.after call.result m meets first values
      (covered_by_scan limits m.vendor (frame_section_lent unwinder.bases unwinder.section) unwinder.base_svma relative)
