-- Rows of any architecture: what their parts come to is what the row comes to.
use Rattle.std.proofs.Common.{◌≡◌, ◌≢◌, inl, inr, ℕ, Bool, Option, Some, None, Result, Ok, Err, refl, sym, ap, subst, ◌∙◌}
use Rattle.dwarf_readers.specs.Stretch.{Stretch}
use Rattle.framehop_registers.specs.Callback.{Words, OverWords}
use Rattle.framehop_registers.proofs.Laws.{over_none, over_weaker}
use Rattle.framehop_rules.specs.Outcome.{Caller}
use Rattle.framehop_rules.specs.declared.unwind_result.UnwindResult.{UnwindResult}
use Rattle.framehop_rules.specs.declared.unwind_result.UnwindResult.TheVariants.{ExecRule, Uncacheable}
use Rattle.dwarf_frame_parts.specs.declared.simple_row.SimpleRow.{SimpleRow}
use Rattle.dwarf_frame_parts.specs.declared.simple_row.SimpleRule.{SimpleRule}
use Rattle.dwarf_frame_parts.specs.declared.simple_row.SimpleRule.TheVariants.{Absent, Undefined, SameValue, Offset}
use Rattle.dwarf_frame_parts.specs.SimpleRows.{parts_shown, rule_shown}
use Rattle.framehop_rows.specs.Memory.{HasExpressionPart, IsColumnExpression}
use Rattle.framehop_rows.specs.RowAttempt.{AnswersRow, DirectAnswer, MeetsExpressionPart, RowAttempt, RowTrial, Translates, attempt_by_parts, direct_trial, row_trial, rule_of_row, said_or_given}
use Rattle.framehop_errors.specs.declared.dwarf.DwarfUnwinderError.{DwarfUnwinderError}
use Rattle.framehop_errors.specs.declared.dwarf.DwarfUnwinderError.TheVariants.{OutOfMemory}
use Rattle.dwarf_frame_parts.specs.declared.parts.Parts.{Parts}

-- A step by the parts of a row.
module _ {Rule Registers : Type 0} (scaled_rule : Parts ℕ → Option Rule) (direct_answer : DirectAnswer Registers) (first : Bool) (values : Option ℕ) (size : ℕ) (section : Stretch)
    (parts : Parts ℕ) where
  abbrev attempt : RowAttempt Rule Registers
  attempt = attempt_by_parts scaled_rule direct_answer first values size section parts

  abbrev given : Registers → Words → Result (Caller Registers) DwarfUnwinderError
  given registers words = direct_answer values size first registers words section parts

  by-taken : (o : Option Rule) → o ≡ scaled_rule parts → said_or_given given o ≡ attempt
  by-taken o is = ap (said_or_given given) is

  -- a rule says the row
  said-by : (rule : Rule) → Some rule ≡ scaled_rule parts → Translates rule ≡ attempt
  said-by rule is = by-taken (Some rule) is

  -- no rule says it, and one of its parts is an expression
  pub expression-met : None ≡ scaled_rule parts → HasExpressionPart parts → MeetsExpressionPart scaled_rule parts
  expression-met is part = record { unsaid = sym is; part = part }

  module _ (unsaid : None ≡ scaled_rule parts) where
    given-by : said_or_given given None ≡ attempt
    given-by = by-taken None unsaid

    -- no rule says it
    none-said : None ≡ rule_of_row attempt
    none-said = ap rule_of_row given-by

    -- what it gives by itself is what is said of the frame
    answer-given : (registers left : Registers) (words : Words) (to : ℕ) → ◌≡◌ {A = Result ℕ DwarfUnwinderError × Registers} (Ok to, left) (direct_trial registers (given registers words))
        → ◌≡◌ {A = RowTrial Rule Registers} (Ok (Uncacheable to), left) (row_trial registers words attempt)
    answer-given registers left words to is = by (given registers words) is ∙ ap (row_trial registers words) given-by
      where
        by : (v : Result (Caller Registers) DwarfUnwinderError) → ◌≡◌ {A = Result ℕ DwarfUnwinderError × Registers} (Ok to, left) (direct_trial registers v)
            → ◌≡◌ {A = RowTrial Rule Registers} (Ok (Uncacheable to), left) (row_trial registers words (said_or_given (λ r w. v) None))
        by (Ok caller) h =
            let answer : ◌≡◌ {A = Result ℕ DwarfUnwinderError} (Ok to) (Ok caller.return_address) = ap (λ (t : Result ℕ DwarfUnwinderError × Registers). t.0) h in
            let same : to ≡ caller.return_address = cc in
            let there : left ≡ caller.registers = ap (λ (t : Result ℕ DwarfUnwinderError × Registers). t.1) h in
            ap (λ (z : ℕ). (Ok (Uncacheable z), left)) same ∙ ap (λ (q : Registers). (Ok (Uncacheable caller.return_address), q)) there
        by (Err e) h = let never : ◌≡◌ {A = Result ℕ DwarfUnwinderError} (Ok to) (Err e) = ap (λ (t : Result ℕ DwarfUnwinderError × Registers). t.0) h in absurd cc

    refusal-given : (registers left : Registers) (words : Words) (e : DwarfUnwinderError) → ◌≡◌ {A = Result ℕ DwarfUnwinderError × Registers} (Err e, left) (direct_trial registers (given registers words))
        → ◌≡◌ {A = RowTrial Rule Registers} (Err e, left) (row_trial registers words attempt)
    refusal-given registers left words e is = by (given registers words) is ∙ ap (row_trial registers words) given-by
      where
        by : (v : Result (Caller Registers) DwarfUnwinderError) → ◌≡◌ {A = Result ℕ DwarfUnwinderError × Registers} (Err e, left) (direct_trial registers v)
            → ◌≡◌ {A = RowTrial Rule Registers} (Err e, left) (row_trial registers words (said_or_given (λ r w. v) None))
        by (Ok caller) h = let never : ◌≡◌ {A = Result ℕ DwarfUnwinderError} (Err e) (Ok caller.return_address) = ap (λ (t : Result ℕ DwarfUnwinderError × Registers). t.0) h in absurd cc
        by (Err f) h =
            let failure : ◌≡◌ {A = Result ℕ DwarfUnwinderError} (Err e) (Err f) = ap (λ (t : Result ℕ DwarfUnwinderError × Registers). t.0) h in
            let same : e ≡ f = cc in
            let there : left ≡ registers = ap (λ (t : Result ℕ DwarfUnwinderError × Registers). t.1) h in
            ap (λ (z : DwarfUnwinderError). (Err z, left)) same ∙ ap (λ (q : Registers). (Err f, q)) there

  module _ {S : Type 0} {step : S → ℕ → Result ℕ (Unit {0}) → S → Type 0} where
    -- the step is the rule that says the row
    pub answers-by_rule : (state : S) (registers : Registers) (rule : Rule) → Some rule ≡ scaled_rule parts
        → AnswersRow step state state registers registers (Ok (ExecRule rule)) attempt
    answers-by_rule state registers rule is = record {
      answer = over_none (λ words _. ap (row_trial registers words) (said-by rule is));
      rule = λ _. ap rule_of_row (said-by rule is);
      registers = refl;
    }

    -- the step is the caller that the row gives
    pub answers-by_caller : (old new : S) (registers left : Registers) (to : ℕ) → None ≡ scaled_rule parts
        → OverWords step old new (λ words. ◌≢◌ {A = Result ℕ DwarfUnwinderError} (Ok to) (Err OutOfMemory) → (Ok to, left) ≡ direct_trial registers (given registers words))
        → AnswersRow step old new registers left (Ok (Uncacheable to)) attempt
    answers-by_caller old new registers left to unsaid call = record {
      answer = over_weaker call (λ words is _. answer-given unsaid registers left words to (is (λ h. cc)));
      rule = λ _. none-said unsaid;
      registers = tt;
    }

    -- the row gives none
    pub answers-by_refusal : (old new : S) (registers left : Registers) (e : DwarfUnwinderError) → None ≡ scaled_rule parts → left ≡ registers
        → OverWords step old new (λ words. ◌≢◌ {A = Result ℕ DwarfUnwinderError} (Err e) (Err OutOfMemory) → (Err e, left) ≡ direct_trial registers (given registers words))
        → AnswersRow step old new registers left (Err e) attempt
    answers-by_refusal old new registers left e unsaid same call = record {
      answer = over_weaker call (λ words is other. refusal-given unsaid registers left words e (is (λ h. other (let out : e ≡ OutOfMemory = cc in ap (λ e. Err e) out))));
      rule = λ _. none-said unsaid;
      registers = same;
    }

-- ---- parts that are the same

module _ {Rule Registers S : Type 0} {step : S → ℕ → Result ℕ (Unit {0}) → S → Type 0} (scaled_rule : Parts ℕ → Option Rule) (direct_answer : DirectAnswer Registers) (first : Bool) (values : Option ℕ) (size : ℕ) where
  pub answers-as : (section : Stretch) (old new : S) (before after : Registers) (result : Result (UnwindResult Rule) DwarfUnwinderError) (parts other : Parts ℕ) → parts ≡ other
      → AnswersRow step old new before after result (attempt_by_parts scaled_rule direct_answer first values size section parts)
      → AnswersRow step old new before after result (attempt_by_parts scaled_rule direct_answer first values size section other)
  answers-as section old new before after result parts other same =
      subst (λ (p : Parts ℕ). AnswersRow step old new before after result (attempt_by_parts scaled_rule direct_answer first values size section p)) same

pub meets-as : {Rule : Type 0} (scaled_rule : Parts ℕ → Option Rule) (parts other : Parts ℕ) → parts ≡ other → MeetsExpressionPart scaled_rule parts → MeetsExpressionPart scaled_rule other
meets-as scaled_rule parts other same = subst (MeetsExpressionPart scaled_rule) same

-- a simple row has no expression
no-column : (rule : SimpleRule) → IsColumnExpression {T = ℕ} (rule_shown rule) → ⊥
no-column Absent h = h
no-column Undefined h = h
no-column SameValue h = h
no-column (Offset offset) h = h

no-part : (row : SimpleRow) → HasExpressionPart (parts_shown row) → ⊥
no-part row (inl h) = h
no-part row (inr (inl h)) = no-column row.fp h
no-part row (inr (inr h)) = no-column row.ra h

pub meets-none : {Rule : Type 0} (scaled_rule : Parts ℕ → Option Rule) (parts : Parts ℕ) (row : SimpleRow) → parts ≡ parts_shown row → MeetsExpressionPart scaled_rule parts → ⊥
meets-none scaled_rule parts row same meets = no-part row (subst HasExpressionPart same meets.part)
