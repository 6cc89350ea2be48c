-- A step by a row is the module's attempt.
use Rattle.std.proofs.Common.{◌≡◌, ◌≢◌, ℕ, Bool, true, false, inl, inr, Option, None, Some, Result, Ok, Err, refl, sym, ap, subst, ◌∙◌}
use Rattle.std.specs.Result.{result_ok}
use Rattle.framehop_registers.specs.Callback.{Words}
use Rattle.framehop_registers.proofs.Laws.{over_none, over_weaker}
use Rattle.framehop_rules.specs.Outcome.{Caller}
use Rattle.framehop_unwinder.specs.Attempt.{Attempt, Says, SaysNothing}
use Rattle.framehop_unwinder.specs.Memory.{WantsMemoryOnlyIf}
use Rattle.framehop_unwinder.specs.RulesKept.{rule_of_attempt}
use Rattle.framehop_rules.specs.UnwindResults.{KeepsUnlessDirect}
use Rattle.framehop_unwinder.specs.Trials.{AnswersAttempt, Trial, trial, trial_of_caller, has_wanted, rule_of_result}
use Rattle.framehop_unwinder.specs.declared.unwinding.UnwindFailure.{UnwindFailure}
use Rattle.framehop_unwinder.specs.declared.unwinding.UnwindFailure.TheVariants as failure
use Rattle.framehop_rules.specs.declared.unwind_result.UnwindResult.{UnwindResult}
use Rattle.framehop_rules.specs.declared.unwind_result.UnwindResult.TheVariants.{ExecRule, Uncacheable}
use Rattle.framehop_errors.specs.declared.dwarf.DwarfUnwinderError.{DwarfUnwinderError}
use Rattle.framehop_errors.specs.declared.dwarf.DwarfUnwinderError.TheVariants as why
use Rattle.framehop_rows.specs.Memory.{TakesMemory, takes_memory}
use Rattle.framehop_rows.specs.RowAttempt.{AnswersRow, RowAttempt, Translates, Gives, RowTrial, row_trial, trial_of_row_caller, rule_of_row, rule_answered}
use Rattle.framehop_rows.specs.RowErrors.{IsOfRow}
use Rattle.framehop_rows.specs.RowMeanings.{RowMeanings}
use Rattle.dwarf_frame_rows.specs.Row.{Row}
use Rattle.framehop.specs.RowAttempts.{attempt_by_row, dwarf_failure}
use Rattle.framehop.specs.Coverage.{Coverage, Covered, Uncovered, NoFde, NoAddress, attempt_by}
use Rattle.framehop.specs.DwarfViews.{AnswersCoverage}

module _ {Rule Registers : Type 0} where
  abbrev answer_part : UnwindResult Rule → RowTrial Rule Registers → UnwindResult Rule
  answer_part other (Ok answer, registers) = answer
  answer_part other (Err e, registers) = other

  -- the parts of equal answers with registers
  both : (x y : UnwindResult Rule) (r s : Registers) → ◌≡◌ {A = RowTrial Rule Registers} (Ok x, r) (Ok y, s) → ◌≡◌ {A = Trial Rule Registers} (Ok x, r) (Ok y, s)
  both x y r s is =
      let answer : x ≡ y = ap (answer_part x) is in
      let registers : r ≡ s = ap (λ (t : RowTrial Rule Registers). t.1) is in
      ap (λ (z : UnwindResult Rule). (Ok z, r)) answer ∙ ap (λ (q : Registers). (Ok y, q)) registers

  -- an answer isn't a failure
  apart : (x : UnwindResult Rule) (e : DwarfUnwinderError) (r s : Registers) → ◌≡◌ {A = RowTrial Rule Registers} (Ok x, r) (Err e, s) → ⊥
  apart x e r s is = let never : ◌≡◌ {A = Result (UnwindResult Rule) DwarfUnwinderError} (Ok x) (Err e) = ap (λ (t : RowTrial Rule Registers). t.0) is in cc

  -- a row's answer is what is said of the frame
  row-answered : (a : RowAttempt Rule Registers) (answer : UnwindResult Rule) (registers left : Registers) (words : Words)
      → (Ok answer, left) ≡ row_trial registers words a → (Ok answer, left) ≡ trial registers words (attempt_by_row a)
  row-answered (Translates rule) answer registers left words is = both answer (ExecRule rule) left registers is
  row-answered (Gives caller) answer registers left words is = by (caller registers words) is
    where
      by : (v : Result (Caller Registers) DwarfUnwinderError) → ◌≡◌ {A = RowTrial Rule Registers} (Ok answer, left) (trial_of_row_caller registers v)
          → ◌≡◌ {A = Trial Rule Registers} (Ok answer, left) (trial_of_caller registers (result_ok v))
      by (Ok caller) h = both answer (Uncacheable caller.return_address) left caller.registers h
      by (Err e) h = absurd (apart answer e left registers h)

  -- a failure that isn't want of memory leaves no caller
  no-caller : (e : DwarfUnwinderError) (registers : Registers) → IsOfRow e → has_wanted {Rule = Rule} (Err (dwarf_failure e)) ≡ false
      → ◌≡◌ {A = Trial Rule Registers} (Err (dwarf_failure e), registers) (trial_of_caller registers None)
  no-caller (why.FdeFromOffsetFailed x) registers is unwanted = absurd is
  no-caller (why.UnwindInfoForAddressFailed x) registers is unwanted = absurd is
  no-caller why.LookupAddressOverflow registers is unwanted = absurd is
  no-caller why.CouldNotRecoverCfa registers is unwanted = refl
  no-caller why.CouldNotRecoverReturnAddress registers is unwanted = refl
  no-caller why.CouldNotRecoverFramePointer registers is unwanted = refl
  no-caller why.DidNotAdvance registers is unwanted = refl
  no-caller why.StackPointerMovedBackwards registers is unwanted = refl
  no-caller why.OutOfMemory registers is unwanted = cc

  row-failed : (a : RowAttempt Rule Registers) (e : DwarfUnwinderError) (registers left : Registers) (words : Words) → IsOfRow e → has_wanted {Rule = Rule} (Err (dwarf_failure e)) ≡ false
      → (Err e, left) ≡ row_trial registers words a → (Err (dwarf_failure e), left) ≡ trial registers words (attempt_by_row a)
  row-failed (Translates rule) e registers left words of unwanted is = absurd (apart (ExecRule rule) e registers left (sym is))
  row-failed (Gives caller) e registers left words of unwanted is = by (caller registers words) is
    where
      by : (v : Result (Caller Registers) DwarfUnwinderError) → ◌≡◌ {A = RowTrial Rule Registers} (Err e, left) (trial_of_row_caller registers v)
          → ◌≡◌ {A = Trial Rule Registers} (Err (dwarf_failure e), left) (trial_of_caller registers (result_ok v))
      by (Ok caller) h = absurd (apart (Uncacheable caller.return_address) e caller.registers left (sym h))
      by (Err f) h =
          let same : left ≡ registers = ap (λ (t : RowTrial Rule Registers). t.1) h in
          ap (λ (q : Registers). (Err (dwarf_failure e), q)) same ∙ no-caller e registers of unwanted

  -- what is kept of an answer is what is kept of the row
  answer-kept : (a : RowAttempt Rule Registers) (fallback : Rule) (answer : UnwindResult Rule) → rule_answered (Ok answer) ≡ rule_of_row a
      → rule_of_result fallback (Ok answer) ≡ rule_of_attempt fallback (attempt_by_row a)
  answer-kept (Translates rule) fallback (ExecRule r) is = is
  answer-kept (Translates rule) fallback (Uncacheable to) is = cc
  answer-kept (Gives caller) fallback (ExecRule r) is = cc
  answer-kept (Gives caller) fallback (Uncacheable to) is = refl

  -- and nothing of a failure
  failure-kept : (a : RowAttempt Rule Registers) (fallback : Rule) (e : DwarfUnwinderError) → IsOfRow e → rule_answered {Rule = Rule} (Err e) ≡ rule_of_row a
      → rule_of_result fallback (Err (dwarf_failure e)) ≡ rule_of_attempt fallback (attempt_by_row a)
  failure-kept (Translates rule) fallback e of is = cc
  failure-kept (Gives caller) fallback (why.FdeFromOffsetFailed x) of is = absurd of
  failure-kept (Gives caller) fallback (why.UnwindInfoForAddressFailed x) of is = absurd of
  failure-kept (Gives caller) fallback why.LookupAddressOverflow of is = absurd of
  failure-kept (Gives caller) fallback why.CouldNotRecoverCfa of is = refl
  failure-kept (Gives caller) fallback why.CouldNotRecoverReturnAddress of is = refl
  failure-kept (Gives caller) fallback why.CouldNotRecoverFramePointer of is = refl
  failure-kept (Gives caller) fallback why.DidNotAdvance of is = refl
  failure-kept (Gives caller) fallback why.StackPointerMovedBackwards of is = refl
  failure-kept (Gives caller) fallback why.OutOfMemory of is = refl

-- a failure without want of memory isn't for want of memory
not-for-memory : {Rule : Type 0} (e : DwarfUnwinderError) → has_wanted {Rule = Rule} (Err (dwarf_failure e)) ≡ false → ◌≢◌ {A = Result (UnwindResult Rule) DwarfUnwinderError} (Err e) (Err why.OutOfMemory)
not-for-memory why.OutOfMemory unwanted = absurd cc
not-for-memory (why.FdeFromOffsetFailed x) unwanted = λ h. cc
not-for-memory (why.UnwindInfoForAddressFailed x) unwanted = λ h. cc
not-for-memory why.LookupAddressOverflow unwanted = λ h. cc
not-for-memory why.CouldNotRecoverCfa unwanted = λ h. cc
not-for-memory why.CouldNotRecoverReturnAddress unwanted = λ h. cc
not-for-memory why.CouldNotRecoverFramePointer unwanted = λ h. cc
not-for-memory why.DidNotAdvance unwanted = λ h. cc
not-for-memory why.StackPointerMovedBackwards unwanted = λ h. cc

-- a failure with it is
for-memory : {Rule : Type 0} (e : DwarfUnwinderError) → has_wanted {Rule = Rule} (Err (dwarf_failure e)) ≡ true → ◌≡◌ {A = Result (UnwindResult Rule) DwarfUnwinderError} (Err e) (Err why.OutOfMemory)
for-memory why.OutOfMemory wanted = refl
for-memory (why.FdeFromOffsetFailed x) wanted = cc
for-memory (why.UnwindInfoForAddressFailed x) wanted = cc
for-memory why.LookupAddressOverflow wanted = cc
for-memory why.CouldNotRecoverCfa wanted = cc
for-memory why.CouldNotRecoverReturnAddress wanted = cc
for-memory why.CouldNotRecoverFramePointer wanted = cc
for-memory why.DidNotAdvance wanted = cc
for-memory why.StackPointerMovedBackwards wanted = cc

module _ {Rule Registers S : Type 0} {step : S → ℕ → Result ℕ (Unit {0}) → S → Type 0} where
  -- what a row answers is what the attempt says
  pub answers-by_row : (old new : S) (registers left : Registers) (answer : UnwindResult Rule) (row : RowAttempt Rule Registers) (attempt : Attempt Rule Registers) → attempt ≡ attempt_by_row row
      → AnswersRow step old new registers left (Ok answer) row → AnswersAttempt step old new registers left (Ok answer) attempt
  answers-by_row old new registers left answer row attempt is says =
      subst (λ (a : Attempt Rule Registers). AnswersAttempt step old new registers left (Ok answer) a) (sym is) (record {
        answer = over_weaker says.answer (λ words same _. row-answered row answer registers left words (same (λ h. cc)));
        kept = λ fallback _. answer-kept row fallback answer (says.rule (λ h. cc));
        registers = by answer says.registers;
      })
    where
      by : (answer : UnwindResult Rule) → KeepsUnlessDirect {Failure = DwarfUnwinderError} (Ok answer) registers left → KeepsUnlessDirect {Failure = UnwindFailure} (Ok answer) registers left
      by (ExecRule rule) h = h
      by (Uncacheable to) h = h

  -- and so is its error
  pub fails-by_row : (old new : S) (registers left : Registers) (e : DwarfUnwinderError) (f : UnwindFailure) (row : RowAttempt Rule Registers) (attempt : Attempt Rule Registers) → IsOfRow e → f ≡ dwarf_failure e
      → attempt ≡ attempt_by_row row → AnswersRow step old new registers left (Err e) row → AnswersAttempt step old new registers left (Err f) attempt
  fails-by_row old new registers left e f row attempt of same is says =
      let calm : has_wanted {Rule = Rule} (Err f) ≡ false → has_wanted {Rule = Rule} (Err (dwarf_failure e)) ≡ false = λ unwanted. subst (λ (f : UnwindFailure). has_wanted {Rule = Rule} (Err f) ≡ false) same unwanted in
      subst (λ (a : Attempt Rule Registers). AnswersAttempt step old new registers left (Err f) a) (sym is) (record {
        answer = over_weaker says.answer (λ words told unwanted.
            ap (λ (f : UnwindFailure). (Err f, left)) same ∙ row-failed row e registers left words of (calm unwanted) (told (not-for-memory e (calm unwanted))));
        kept = λ fallback unwanted. ap (λ (f : UnwindFailure). rule_of_result fallback (Err f)) same ∙ failure-kept row fallback e of (says.rule (not-for-memory e (calm unwanted)));
        registers = says.registers;
      })

  -- a rule is answered
  pub answers-by_rule : (state : S) (registers : Registers) (rule : Rule) (attempt : Attempt Rule Registers) → attempt ≡ Says rule
      → AnswersAttempt step state state registers registers (Ok (ExecRule rule)) attempt
  answers-by_rule state registers rule attempt is = subst (λ (a : Attempt Rule Registers). AnswersAttempt step state state registers registers (Ok (ExecRule rule)) a) (sym is) (record {
    answer = over_none (λ words _. refl);
    kept = λ fallback _. refl;
    registers = refl;
  })

  -- nothing is said
  pub answers-nothing : (state : S) (registers : Registers) (attempt : Attempt Rule Registers) → attempt ≡ SaysNothing → AnswersAttempt step state state registers registers (Err failure.OfModule) attempt
  answers-nothing state registers attempt is = subst (λ (a : Attempt Rule Registers). AnswersAttempt step state state registers registers (Err failure.OfModule) a) (sym is) (record {
    answer = over_none (λ words _. refl);
    kept = λ fallback _. refl;
    registers = refl;
  })

-- a stack of values that never allocates doesn't
none-taken : (in_place : Bool) (limit : Option ℕ) → takes_memory in_place limit ≡ false → TakesMemory in_place limit → ⊥
none-taken true (Some n) none (inl h) = cc
none-taken true (Some n) none (inr h) = cc
none-taken true None none h = cc
none-taken false limit none h = cc

-- an error of a row is out of memory only if its expressions' values allocate
pub memory-by_row : {Rule : Type 0} (e : DwarfUnwinderError) (f : UnwindFailure) (in_place : Bool) (limit : Option ℕ) (Asks : Type 0) → f ≡ dwarf_failure e
    → (◌≡◌ {A = Result (UnwindResult Rule) DwarfUnwinderError} (Err e) (Err why.OutOfMemory) → TakesMemory in_place limit)
    → (◌≡◌ {A = Result (UnwindResult Rule) DwarfUnwinderError} (Err e) (Err why.OutOfMemory) → Asks)
    → WantsMemoryOnlyIf (takes_memory in_place limit) (has_wanted {Rule = Rule} (Err f)) Asks
memory-by_row {Rule} e f in_place limit Asks same takes asks =
    let out : has_wanted {Rule = Rule} (Err f) ≡ true → ◌≡◌ {A = Result (UnwindResult Rule) DwarfUnwinderError} (Err e) (Err why.OutOfMemory) = λ wanted.
    for-memory e (subst (λ (f : UnwindFailure). has_wanted {Rule = Rule} (Err f) ≡ true) same wanted) in
    record {
      never = λ none. by (has_wanted {Rule = Rule} (Err f)) (λ wanted. none-taken in_place limit none (takes (out wanted)));
      asked = λ wanted. asks (out wanted);
    }
  where
    by : (b : Bool) → (b ≡ true → ⊥) → b ≡ false
    by true h = absurd (h refl)
    by false h = refl

module _ {Rule Registers S : Type 0} {step : S → ℕ → Result ℕ (Unit {0}) → S → Type 0} (m : RowMeanings Rule Registers) (meets : Row ℕ → Type 0) (first : Bool) (values : Option ℕ) where
  -- what is answered by call frames is what the module's attempt says
  pub answers-covered : (old new : S) (registers left : Registers) (answer : UnwindResult Rule) (coverage : Coverage)
      → AnswersCoverage step old new registers left (Ok answer) m meets first values coverage → AnswersAttempt step old new registers left (Ok answer) (attempt_by m first values coverage)
  answers-covered old new registers left answer (Covered size section row) says = answers-by_row old new registers left answer (m.row_attempt first values size section row) _ refl says.row
  answers-covered old new registers left answer Uncovered says = answers-by_row old new registers left answer (Translates m.uncovered) _ refl says.row
  answers-covered old new registers left answer (NoFde e) says = absurd says.answer
  answers-covered old new registers left answer NoAddress says = absurd says.answer

  -- nothing is said after an error of the way to the FDE
  nothing-said : (old new : S) (registers left : Registers) (e : DwarfUnwinderError) (f : UnwindFailure) (row : RowAttempt Rule Registers) → f ≡ failure.OfModule
      → AnswersRow step old new registers left (Err e) row → AnswersAttempt {Rule = Rule} step old new registers left (Err f) SaysNothing
  nothing-said old new registers left e f row same says =
      subst (λ (f : UnwindFailure). AnswersAttempt {Rule = Rule} step old new registers left (Err f) SaysNothing) (sym same) (record {
        answer = over_weaker says.answer (λ words _ _. ap (λ (q : Registers). (Err failure.OfModule, q)) says.registers);
        kept = λ fallback _. refl;
        registers = says.registers;
      })

  -- and so is an error
  pub fails-covered : (old new : S) (registers left : Registers) (e : DwarfUnwinderError) (f : UnwindFailure) (coverage : Coverage) → f ≡ dwarf_failure e
      → AnswersCoverage step old new registers left (Err e) m meets first values coverage → AnswersAttempt step old new registers left (Err f) (attempt_by m first values coverage)
  fails-covered old new registers left e f (Covered size section row) same says = fails-by_row old new registers left e f (m.row_attempt first values size section row) _ says.error same refl says.row
  fails-covered old new registers left e f Uncovered same says = absurd says.error
  fails-covered old new registers left e f (NoFde x) same says = nothing-said old new registers left e f _ (same ∙ ap dwarf_failure says.error) says.row
  fails-covered old new registers left e f NoAddress same says = nothing-said old new registers left e f _ (same ∙ ap dwarf_failure says.error) says.row
