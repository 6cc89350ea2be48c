-- Steps of a module by the unwind data of a PE file.
use Rattle.std.proofs.Common.{◌≡◌, ◌∙◌, ℕ, Bool, false, refl, sym, ap, subst}
use Rattle.std.specs.Borrow.{Bor}
use Rattle.std.specs.Option.{option_copied}
use Rattle.std.specs.Prelude.{Option, Some, None, option_map, Result, Ok, Err}
use Rattle.dwarf_frame_rows.specs.Row.{Row}
use Rattle.framehop_registers.proofs.Laws.{over_weaker}
use Rattle.framehop_rules.specs.UnwindResults.{KeepsUnlessDirect}
use Rattle.framehop_rules.specs.declared.unwind_result.UnwindResult.{UnwindResult}
use Rattle.framehop_rules.specs.declared.unwind_result.UnwindResult.TheVariants.{ExecRule, Uncacheable}
use Rattle.framehop_errors.specs.declared.pe.PeUnwinderError.{PeUnwinderError}
use Rattle.framehop_errors.specs.declared.pe.PeUnwinderError.TheVariants.{Aarch64Unsupported, MissingInstructionData, MissingStackData, MissingUnwindInfoData, UnwindInfoParseError}
use Rattle.framehop_errors.specs.declared.unwinder.UnwinderError.TheVariants as of
use Rattle.framehop_pe_codes.specs.Refusals.{IsOfFile, IsOfStack, PeResult}
use Rattle.framehop_pe_codes.specs.Sections.{PeFile, PeSection, file_of, section_lent, section_of}
use Rattle.framehop_pe_codes.specs.declared.sections.DataAtRvaRange.{DataAtRvaRange}
use Rattle.framehop_pe_codes.specs.declared.sections.PeSections.{PeSections}
use Rattle.framehop_pe.specs.PeAttempts.{AnswersPe, PeAttempt, PeTrial, Refuses, SaysCodes, SaysRule, trial_of_caller}
use Rattle.framehop_rows.specs.RowMeanings.{RowMeanings}
use Rattle.framehop_unwinder.specs.Memory.{WantsMemoryOnlyIf}
use Rattle.framehop_unwinder.specs.Trials as trials
use Rattle.framehop_unwinder.specs.Trials.{AnswersAttempt, Trial, has_wanted, rule_of_result}
use Rattle.framehop_unwinder.specs.declared.unwinding.UnwindFailure.{UnwindFailure}
use Rattle.framehop_unwinder.specs.declared.unwinding.UnwindFailure.TheVariants as failure
use Rattle.framehop.specs.Attempts.{attempt_by_method}
use Rattle.framehop_loads.specs.StepLimits.{StepLimits}
use Rattle.framehop.specs.MethodViews.{AnswersMethod}
use Rattle.framehop.specs.PeMethods.{caller_if_any, method_by_pe}
use Rattle.framehop.specs.RowAttempts.{failure_of}

-- a section that is lent
pub lent-as : (lent : Option (Bor DataAtRvaRange)) (made : Option DataAtRvaRange) (section : Option PeSection) → option_copied lent ≡ made
    → option_map section_of made ≡ section → section_lent lent ≡ section
lent-as None made section is view = ap (option_map section_of) is ∙ view
lent-as (Some found) made section is view = ap (option_map section_of) is ∙ view

-- a file whose sections are lent
pub file-as : (sections : PeSections) (file : PeFile) → sections.pdata.now ≡ file.pdata → section_lent sections.rdata ≡ file.rdata → section_lent sections.xdata ≡ file.xdata
    → section_lent sections.text ≡ file.text → sections.code_rules ≡ file.code_rules → file_of sections ≡ file
unfolding file_of
file-as sections file pdata rdata xdata text code_rules = rw (pdata, rdata, xdata, text, code_rules) refl

-- what a refusal is for the module
of-stack : (e : PeUnwinderError) → IsOfStack e → failure_of (of.Pe e) ≡ failure.OfFrame
of-stack (MissingStackData address) is = refl
of-stack (MissingUnwindInfoData address) is = absurd is
of-stack (MissingInstructionData address) is = absurd is
of-stack UnwindInfoParseError is = absurd is
of-stack Aarch64Unsupported is = absurd is

of-file : (e : PeUnwinderError) → IsOfFile e → failure_of (of.Pe e) ≡ failure.OfModule
of-file (MissingStackData address) is = absurd is
of-file (MissingUnwindInfoData address) is = refl
of-file (MissingInstructionData address) is = refl
of-file UnwindInfoParseError is = refl
of-file Aarch64Unsupported is = refl

-- no refusal is for want of memory
calm : (Rule : Type 0) (e : PeUnwinderError) → has_wanted {Rule = Rule} (Err (failure_of (of.Pe e))) ≡ false
calm Rule (MissingStackData address) = refl
calm Rule (MissingUnwindInfoData address) = refl
calm Rule (MissingInstructionData address) = refl
calm Rule UnwindInfoParseError = refl
calm Rule Aarch64Unsupported = refl

never-wanted : (takes wanted : Bool) (Asks : Type 0) → wanted ≡ false → WantsMemoryOnlyIf takes wanted Asks
never-wanted takes wanted Asks none = record { never = λ _. none; asked = λ is. absurd (let both = sym none ∙ is in cc) }

module _ {Rule Registers : Type 0} where
  -- two answers with their registers that are one
  answer-left : (one other : UnwindResult Rule) (after before : Registers) → (let t : PeTrial Rule Registers = (Ok one, after) in t) ≡ (Ok other, before) → (one ≡ other) × (after ≡ before)
  answer-left one other after before is =
      let first : (let o : PeResult (UnwindResult Rule) = Ok one in o) ≡ Ok other = ap (λ (t : PeTrial Rule Registers). t.0) is in
      (cc, ap (λ (t : PeTrial Rule Registers). t.1) is)

  -- a caller
  caller-same : (to : ℕ) (before after : Registers) (caller : PeResult (ℕ × Registers)) → (let t : PeTrial Rule Registers = (Ok (Uncacheable to), after) in t) ≡ trial_of_caller before caller
      → (let t : Trial Rule Registers = (Ok (Uncacheable to), after) in t) ≡ trials.trial_of_caller before (caller_if_any caller)
  caller-same to before after (Ok (there, left)) is =
      let (answer, kept) = answer-left (Uncacheable to) (Uncacheable there) after left is in
      let same : to ≡ there = cc in
      rw (same, kept) refl
  caller-same to before after (Err e) is = let first = ap (λ (t : PeTrial Rule Registers). t.0) is in cc

  -- no caller
  none-same : (e : PeUnwinderError) (f : UnwindFailure) (before after : Registers) (caller : PeResult (ℕ × Registers)) → f ≡ failure.OfFrame → after ≡ before
      → (let t : PeTrial Rule Registers = (Err e, after) in t) ≡ trial_of_caller before caller
      → (let t : Trial Rule Registers = (Err f, after) in t) ≡ trials.trial_of_caller before (caller_if_any caller)
  none-same e f before after (Ok (there, left)) same kept is = let first = ap (λ (t : PeTrial Rule Registers). t.0) is in cc
  none-same e f before after (Err g) same kept is = rw (same, kept) refl

  -- attempts that are the same
  pub said-as : {S : Type 0} {step : S → ℕ → Result ℕ (Unit {0}) → S → Type 0} (old new : S) (before after : Registers) (result : PeResult (UnwindResult Rule)) (one other : PeAttempt Rule Registers)
      → one ≡ other → AnswersPe step old new before after result one → AnswersPe step old new before after result other
  said-as {step = step} old new before after result one other same says = subst (λ (a : PeAttempt Rule Registers). AnswersPe step old new before after result a) same says

  module _ {S : Type 0} {step : S → ℕ → Result ℕ (Unit {0}) → S → Type 0} (m : RowMeanings Rule Registers) (meets : Row ℕ → Type 0) (limits : StepLimits) (takes first : Bool) where
    -- an answer is what the attempt says
    answer-said : (old new : S) (before after : Registers) (answer : UnwindResult Rule) (attempt : PeAttempt Rule Registers) → KeepsUnlessDirect {Failure = PeUnwinderError} (Ok answer) before after
        → AnswersPe step old new before after (Ok answer) attempt
        → AnswersAttempt step old new before after (Ok answer) (attempt_by_method m limits first (method_by_pe attempt))
    answer-said old new before after answer (SaysRule rule) keeps says =
        let same : answer ≡ ExecRule rule = (let is = says.is_of in cc) in
        let kept : after ≡ before = subst (λ (a : UnwindResult Rule). KeepsUnlessDirect {Failure = PeUnwinderError} (Ok a) before after) same keeps in
        rw (same, kept) (record {
          answer = over_weaker says.answer (λ words told wanted. refl);
          kept = λ fallback wanted. refl;
          registers = refl;
        })
    answer-said old new before after (ExecRule rule) (SaysCodes caller) keeps says = absurd says.is_of
    answer-said old new before after (Uncacheable to) (SaysCodes caller) keeps says = record {
      answer = over_weaker says.answer (λ words told wanted. caller-same to before after (caller before words) told);
      kept = λ fallback wanted. refl;
      registers = tt;
    }
    answer-said old new before after answer (Refuses e) keeps says = let is = says.is_of.0 in cc

    -- and so is a refusal
    refusal-said : (old new : S) (before after : Registers) (e : PeUnwinderError) (f : UnwindFailure) (attempt : PeAttempt Rule Registers) → f ≡ failure_of (of.Pe e) → after ≡ before
        → AnswersPe step old new before after (Err e) attempt
        → AnswersAttempt step old new before after (Err f) (attempt_by_method m limits first (method_by_pe attempt))
    refusal-said old new before after e f (SaysRule rule) same kept says = let is = says.is_of in cc
    refusal-said old new before after e f (SaysCodes caller) same kept says =
        let of_frame = same ∙ of-stack e says.is_of in
        record {
          answer = over_weaker says.answer (λ words told wanted. none-same e f before after (caller before words) of_frame kept told);
          kept = λ fallback wanted. ap (λ (f : UnwindFailure). rule_of_result fallback (Err f)) of_frame;
          registers = kept;
        }
    refusal-said old new before after e f (Refuses g) same kept says =
        let again : e ≡ g = (let is = says.is_of.0 in cc) in
        let of_module = same ∙ ap (λ (e : PeUnwinderError). failure_of (of.Pe e)) again ∙ of-file g says.is_of.1 in
        record {
          answer = over_weaker says.answer (λ words told wanted. rw (of_module, kept) refl);
          kept = λ fallback wanted. ap (λ (f : UnwindFailure). rule_of_result fallback (Err f)) of_module;
          registers = kept;
        }

    pub pe-answers : (old new : S) (before after : Registers) (answer : UnwindResult Rule) (attempt : PeAttempt Rule Registers) → KeepsUnlessDirect {Failure = PeUnwinderError} (Ok answer) before after
        → AnswersPe step old new before after (Ok answer) attempt
        → AnswersMethod step old new before after (Ok answer) m meets limits takes first (method_by_pe attempt)
    pe-answers old new before after answer attempt keeps says = record {
      answer = answer-said old new before after answer attempt keeps says;
      memory = never-wanted takes (has_wanted {Rule = Rule} (Ok answer)) _ refl;
    }

    pub pe-fails : (old new : S) (before after : Registers) (e : PeUnwinderError) (f : UnwindFailure) (attempt : PeAttempt Rule Registers) → f ≡ failure_of (of.Pe e) → after ≡ before
        → AnswersPe step old new before after (Err e) attempt
        → AnswersMethod step old new before after (Err f) m meets limits takes first (method_by_pe attempt)
    pe-fails old new before after e f attempt same kept says = record {
      answer = refusal-said old new before after e f attempt same kept says;
      memory = never-wanted takes (has_wanted {Rule = Rule} (Err f)) _ (ap (λ (f : UnwindFailure). has_wanted {Rule = Rule} (Err f)) same ∙ calm Rule e);
    }
