-- Steps by ways out of functions, and by what tables say.
use Rattle.std.proofs.Common.{◌≡◌, ℕ, false, Option, Some, None, Result, Ok, Err, refl, sym, ap, ◌∙◌}
use Rattle.framehop_registers.specs.Callback.{Words}
use Rattle.framehop_rules.specs.Outcome.{Caller}
use Rattle.framehop_rules.specs.UnwindResults.{KeepsUnlessDirect}
use Rattle.framehop_rules.specs.declared.unwind_result.UnwindResult.{UnwindResult}
use Rattle.framehop_rules.specs.declared.unwind_result.UnwindResult.TheVariants.{ExecRule, Uncacheable}
use Rattle.framehop_unwinder.specs.Attempt.{Attempt, Says, Evaluates, SaysNothing}
use Rattle.framehop_unwinder.specs.RulesKept.{rule_of_attempt}
use Rattle.framehop_unwinder.specs.Trials.{AnswersAttempt, Trial, has_wanted, rule_of_result, trial, trial_of_caller}
use Rattle.framehop_unwinder.specs.declared.unwinding.UnwindFailure.{UnwindFailure}
use Rattle.framehop_unwinder.specs.declared.unwinding.UnwindFailure.TheVariants as failure
use Rattle.framehop.specs.MethodViews.{result_or_way}
use Rattle.framehop.specs.WayAttempts.{or_way, way_or}

-- memory is wanted by tables alone
wants-alike : {Rule : Type 0} (said : Result (UnwindResult Rule) UnwindFailure) (rule : Option Rule) → has_wanted (result_or_way said rule) ≡ has_wanted said
wants-alike said None = refl
wants-alike (Ok answer) (Some rule) = refl
wants-alike (Err failure.OfModule) (Some rule) = refl
wants-alike (Err failure.OfFrame) (Some rule) = refl
wants-alike (Err failure.OutOfMemory) (Some rule) = refl

module _ {Rule Registers : Type 0} (rule : Rule) where
  -- what was answered by tables is answered, with the rule where they said nothing
  caller-answered : (said : Result (UnwindResult Rule) UnwindFailure) (before after : Registers) (caller : Option (Caller Registers)) → (said, after) ≡ trial_of_caller before caller
      → (result_or_way said (Some rule), after) ≡ trial_of_caller before caller
  caller-answered said before after (Some caller) is =
      let same : said ≡ Ok (Uncacheable caller.return_address) = ap (λ (t : Trial Rule Registers). t.0) is in
      ap (λ (r : Result (UnwindResult Rule) UnwindFailure). (result_or_way r (Some rule), after)) same ∙ ap (λ (r : Registers). (Ok (Uncacheable caller.return_address), r)) (ap (λ (t : Trial Rule Registers). t.1) is)
  caller-answered said before after None is =
      let same : said ≡ Err failure.OfFrame = ap (λ (t : Trial Rule Registers). t.0) is in
      ap (λ (r : Result (UnwindResult Rule) UnwindFailure). (result_or_way r (Some rule), after)) same ∙ ap (λ (r : Registers). (Err failure.OfFrame, r)) (ap (λ (t : Trial Rule Registers). t.1) is)

  answered : (said : Result (UnwindResult Rule) UnwindFailure) (before after : Registers) (words : Words) (attempt : Attempt Rule Registers) → (said, after) ≡ trial before words attempt
      → (result_or_way said (Some rule), after) ≡ trial before words (or_way attempt (Some rule))
  answered said before after words (Says other) is =
      let same : said ≡ Ok (ExecRule other) = ap (λ (t : Trial Rule Registers). t.0) is in
      ap (λ (r : Result (UnwindResult Rule) UnwindFailure). (result_or_way r (Some rule), after)) same ∙ ap (λ (r : Registers). (Ok (ExecRule other), r)) (ap (λ (t : Trial Rule Registers). t.1) is)
  answered said before after words (Evaluates caller) is = caller-answered said before after (caller before words) is
  answered said before after words SaysNothing is =
      let same : said ≡ Err failure.OfModule = ap (λ (t : Trial Rule Registers). t.0) is in
      ap (λ (r : Result (UnwindResult Rule) UnwindFailure). (result_or_way r (Some rule), after)) same ∙ ap (λ (r : Registers). (Ok (ExecRule rule), r)) (ap (λ (t : Trial Rule Registers). t.1) is)

  -- and kept
  kept : (said : Result (UnwindResult Rule) UnwindFailure) (attempt : Attempt Rule Registers) → has_wanted said ≡ false → ((fallback : Rule) → rule_of_result fallback said ≡ rule_of_attempt fallback attempt)
      → (fallback : Rule) → rule_of_result fallback (result_or_way said (Some rule)) ≡ rule_of_attempt fallback (or_way attempt (Some rule))
  kept (Ok answer) (Says other) calm is fallback = is fallback
  kept (Ok answer) (Evaluates caller) calm is fallback = is fallback
  kept (Ok answer) SaysNothing calm is fallback = by answer (is fallback) (is rule)
    where
      by : (answer : UnwindResult Rule) → rule_of_result fallback (Ok answer) ≡ Some fallback → rule_of_result rule (Ok answer) ≡ Some rule → rule_of_result fallback (Ok answer) ≡ Some rule
      by (ExecRule other) here there = there
      by (Uncacheable to) here there = cc
  kept (Err failure.OfModule) (Says other) calm is fallback = is rule
  kept (Err failure.OfModule) (Evaluates caller) calm is fallback = let never = is fallback in cc
  kept (Err failure.OfModule) SaysNothing calm is fallback = refl
  kept (Err failure.OfFrame) (Says other) calm is fallback = is fallback
  kept (Err failure.OfFrame) (Evaluates caller) calm is fallback = refl
  kept (Err failure.OfFrame) SaysNothing calm is fallback = let never = is fallback in cc
  kept (Err failure.OutOfMemory) attempt calm is fallback = cc

  keeps : (said : Result (UnwindResult Rule) UnwindFailure) (before after : Registers) → KeepsUnlessDirect said before after → KeepsUnlessDirect (result_or_way said (Some rule)) before after
  keeps (Ok answer) before after is = is
  keeps (Err failure.OfModule) before after is = is
  keeps (Err failure.OfFrame) before after is = is
  keeps (Err failure.OutOfMemory) before after is = is

-- so a step answers by its tables, or else by the rule of a way
after-answers : {Rule Registers S : Type 0} {step : S → ℕ → Result ℕ (Unit {0}) → S → Type 0} (old new : S) (before after : Registers) (said : Result (UnwindResult Rule) UnwindFailure) (attempt : Attempt Rule Registers)
    (rule : Option Rule) → AnswersAttempt step old new before after said attempt → AnswersAttempt step old new before after (result_or_way said rule) (or_way attempt rule)
after-answers old new before after said attempt None says = says
after-answers old new before after said attempt (Some rule) says =
    let alike = wants-alike said (Some rule) in
    record {
      answer = record {
        said = λ words told calm. answered rule said before after words attempt (says.answer.said words told (sym alike ∙ calm));
        still = says.answer.still;
      };
      kept = λ fallback calm. kept rule said attempt (sym alike ∙ calm) (λ other. says.kept other (sym alike ∙ calm)) fallback;
      registers = keeps rule said before after says.registers;
    }

-- .. where no rule comes before the tables
pub by-tables-first : {Rule Registers S : Type 0} {step : S → ℕ → Result ℕ (Unit {0}) → S → Type 0} (old new : S) (before after : Registers) (said result : Result (UnwindResult Rule) UnwindFailure)
    (attempt : Attempt Rule Registers) (earlier rule : Option Rule) → earlier ≡ None → result ≡ result_or_way said rule
    → AnswersAttempt step old new before after said attempt → AnswersAttempt step old new before after result (way_or earlier (or_way attempt rule))
by-tables-first old new before after said result attempt earlier rule none same says = rw (none, same) (after-answers old new before after said attempt rule says)
