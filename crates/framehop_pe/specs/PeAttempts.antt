-- What the unwind data of a PE file say of a frame, on any architecture, and what a call that steps by them answers.
use Rattle.std.specs.Prelude.{ℕ, ◌≡◌, Result, Ok, Err}
use Rattle.framehop_registers.specs.Callback.{OverWords, Words}
use Rattle.framehop_rules.specs.declared.unwind_result.UnwindResult.{UnwindResult}
use Rattle.framehop_rules.specs.declared.unwind_result.UnwindResult.TheVariants.{ExecRule, Uncacheable}
use Rattle.framehop_errors.specs.declared.pe.PeUnwinderError.{PeUnwinderError}
use Rattle.framehop_pe_codes.specs.Refusals.{IsOfFile, IsOfStack, PeResult}

-- They say an unwind rule; or codes, which give the caller of these registers and words, the return address and the registers there, or a
-- refusal; or they are refused, for all registers and words.
pub data PeAttempt (Rule Registers : Type 0) : Type 0 where
  SaysRule : Rule → PeAttempt Rule Registers
  SaysCodes : (Registers → Words → PeResult (ℕ × Registers)) → PeAttempt Rule Registers
  Refuses : PeUnwinderError → PeAttempt Rule Registers

-- An answer, and the registers with it.
abbrev pub PeTrial : Type 0 → Type 0 → Type 0
PeTrial Rule Registers = PeResult (UnwindResult Rule) × Registers

-- The caller, or a refusal, which leaves the registers.
abbrev pub trial_of_caller : {Rule Registers : Type 0} → Registers → PeResult (ℕ × Registers) → PeTrial Rule Registers
trial_of_caller registers (Ok caller) = (Ok (Uncacheable caller.0), caller.1)
trial_of_caller registers (Err refusal) = (Err refusal, registers)

-- What is answered.
abbrev pub pe_trial : {Rule Registers : Type 0} → Registers → Words → PeAttempt Rule Registers → PeTrial Rule Registers
pe_trial registers words (SaysRule rule) = (Ok (ExecRule rule), registers)
pe_trial registers words (SaysCodes caller) = trial_of_caller registers (caller registers words)
pe_trial registers words (Refuses refusal) = (Err refusal, registers)

-- An answer by codes: a caller, or a refusal for these registers and words.
abbrev pub IsByCodes : {Rule : Type 0} → PeResult (UnwindResult Rule) → Type 0
IsByCodes (Ok (ExecRule rule)) = ⊥
IsByCodes (Ok (Uncacheable to)) = Unit {0}
IsByCodes (Err refusal) = IsOfStack refusal

-- Which answers there are, whatever is read: the rule, one by codes, or the refusal, which isn't one for these registers and words.
abbrev pub IsAnswerOf : {Rule Registers : Type 0} → PeAttempt Rule Registers → PeResult (UnwindResult Rule) → Type 0
IsAnswerOf (SaysRule rule) result = result ≡ Ok (ExecRule rule)
IsAnswerOf (SaysCodes caller) result = IsByCodes result
IsAnswerOf (Refuses refusal) result = (result ≡ Err refusal) × IsOfFile refusal

-- A step that took the callback from `old` to `new` and the registers from `before` to `after` answers what is said.
pub record AnswersPe {Rule Registers S : Type 0} (step : S → ℕ → Result ℕ (Unit {0}) → S → Type 0) (old new : S)
    (before after : Registers) (result : PeResult (UnwindResult Rule)) (attempt : PeAttempt Rule Registers) : Type 0 where
  pub answer : OverWords step old new (λ words. (result, after) ≡ pe_trial before words attempt)
  pub is_of : IsAnswerOf attempt result
