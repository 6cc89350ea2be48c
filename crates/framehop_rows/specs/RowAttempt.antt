-- The attempt at a step by a row of call frames, on any architecture.
use Rattle.std.specs.Prelude.{◌≡◌, ◌≢◌, ℕ, Bool, Option, Some, None, OnErr, Result, Ok, Err}
use Rattle.dwarf_readers.specs.Stretch.{Stretch}
use Rattle.dwarf_frame_rows.specs.Row.{Row}
use Rattle.framehop_registers.specs.Callback.{Words, OverWords}
use Rattle.framehop_rules.specs.Outcome.{Caller}
use Rattle.framehop_rules.specs.UnwindResults.{KeepsUnlessDirect}
use Rattle.framehop_rules.specs.declared.unwind_result.UnwindResult.{UnwindResult}
use Rattle.framehop_rules.specs.declared.unwind_result.UnwindResult.TheVariants.{ExecRule, Uncacheable}
use Rattle.framehop_rows.specs.Memory.{HasExpressionPart}
use Rattle.framehop_errors.specs.declared.dwarf.DwarfUnwinderError.{DwarfUnwinderError}
use Rattle.framehop_errors.specs.declared.dwarf.DwarfUnwinderError.TheVariants as why
use Rattle.dwarf_frame_parts.specs.declared.parts.Parts.{Parts}

-- An attempt at a step by a row: by an unwind rule that says the row exactly; or the caller that the row gives by itself, from the
-- registers and the words of the stack, or why it gives none.
pub data RowAttempt (Rule Registers : Type 0) : Type 0 where
  Translates : Rule → RowAttempt Rule Registers
  Gives : (Registers → Words → Result (Caller Registers) DwarfUnwinderError) → RowAttempt Rule Registers

-- the attempt by the rule that says a row, if one does, or else by the caller that the row gives by itself
abbrev pub said_or_given : {Rule Registers : Type 0} → (Registers → Words → Result (Caller Registers) DwarfUnwinderError)
    → Option Rule → RowAttempt Rule Registers
said_or_given caller (Some rule) = Translates rule
said_or_given caller None = Gives caller

-- The caller that the parts of a row give by themselves: by the most values of an expression, if there is a limit, the size of an
-- address in bytes, whether the frame is the first, its registers, the words of the stack, and the bytes of the section.
abbrev pub DirectAnswer : Type 0 → Type 0
DirectAnswer Registers =
    Option ℕ → ℕ → Bool → Registers → Words → Stretch → Parts ℕ → Result (Caller Registers) DwarfUnwinderError

-- the attempt by the parts of a row
abbrev pub attempt_by_parts : {Rule Registers : Type 0} → (Parts ℕ → Option Rule) → DirectAnswer Registers
    → Bool → Option ℕ → ℕ → Stretch → Parts ℕ → RowAttempt Rule Registers
attempt_by_parts scaled_rule direct_answer first values address_size section parts =
    said_or_given (λ registers words. direct_answer values address_size first registers words section parts) (scaled_rule parts)

-- No rule says a row, and one of its parts is an expression.
pub record MeetsExpressionPart {Rule : Type 0} (scaled_rule : Parts ℕ → Option Rule) (parts : Parts ℕ) : Type 0 where
  pub unsaid : scaled_rule parts ≡ None
  pub part : HasExpressionPart parts

-- a result and the registers after the step
abbrev pub RowTrial : Type 0 → Type 0 → Type 0
RowTrial Rule Registers = Result (UnwindResult Rule) DwarfUnwinderError × Registers

-- the caller's return address and registers, or why there is no caller and the registers as they were
abbrev pub direct_trial : {Registers : Type 0} → Registers → Result (Caller Registers) DwarfUnwinderError
    → Result ℕ DwarfUnwinderError × Registers
direct_trial registers (Ok caller) = (Ok caller.return_address, caller.registers)
direct_trial registers (Err failure) = (Err failure, registers)

-- A step by the parts of a row, which took the callback from `old` to `new` and the registers from `before` to `after`, has the return
-- address and the registers of the caller that the parts give, unless memory ran out; and an error leaves the registers.
pub record AnswersCaller {Registers S : Type 0} (step : S → ℕ → Result ℕ (Unit {0}) → S → Type 0) (old new : S)
    (before after : Registers) (result : Result ℕ DwarfUnwinderError)
    (caller : Registers → Words → Result (Caller Registers) DwarfUnwinderError) : Type 0 where
  pub answer : OverWords step old new (λ words. result ≢ Err why.OutOfMemory → (result, after) ≡ direct_trial before (caller before words))
  pub registers : OnErr result (after ≡ before)

-- the step by the caller that a row gives, or why it gives none
abbrev pub trial_of_row_caller : {Rule Registers : Type 0} → Registers → Result (Caller Registers) DwarfUnwinderError
    → RowTrial Rule Registers
trial_of_row_caller registers (Ok caller) = (Ok (Uncacheable caller.return_address), caller.registers)
trial_of_row_caller registers (Err failure) = (Err failure, registers)

-- the step by a row's attempt
abbrev pub row_trial : {Rule Registers : Type 0} → Registers → Words → RowAttempt Rule Registers → RowTrial Rule Registers
row_trial registers words (Translates rule) = (Ok (ExecRule rule), registers)
row_trial registers words (Gives caller) = trial_of_row_caller registers (caller registers words)

-- the rule of a row's attempt, if it has one
abbrev pub rule_of_row : {Rule Registers : Type 0} → RowAttempt Rule Registers → Option Rule
rule_of_row (Translates rule) = Some rule
rule_of_row (Gives caller) = None

-- the rule of a result, if it has one
abbrev pub rule_answered : {Rule : Type 0} → Result (UnwindResult Rule) DwarfUnwinderError → Option Rule
rule_answered (Ok (ExecRule rule)) = Some rule
rule_answered (Ok (Uncacheable return_address)) = None
rule_answered (Err failure) = None

-- A step by a row, which took the callback from `old` to `new` and the registers from `before` to `after`, has the result that the
-- row's attempt says, unless memory ran out; and only a caller changes the registers.
pub record AnswersRow {Rule Registers S : Type 0} (step : S → ℕ → Result ℕ (Unit {0}) → S → Type 0) (old new : S)
    (before after : Registers) (result : Result (UnwindResult Rule) DwarfUnwinderError) (attempt : RowAttempt Rule Registers) : Type 0 where
  pub answer : OverWords step old new (λ words. result ≢ Err why.OutOfMemory → (result, after) ≡ row_trial before words attempt)
  pub rule : result ≢ Err why.OutOfMemory → rule_answered result ≡ rule_of_row attempt
  pub registers : KeepsUnlessDirect result before after

-- .. that the attempt by each row says that has a property
abbrev pub AnswersRows : {Rule Registers S : Type 0} → (S → ℕ → Result ℕ (Unit {0}) → S → Type 0) → (old new : S) → (before after : Registers)
    → Result (UnwindResult Rule) DwarfUnwinderError → (Row ℕ → RowAttempt Rule Registers) → (Row ℕ → Type 0) → Type 0
AnswersRows step old new before after result attempt has = (row : Row ℕ) → has row → AnswersRow step old new before after result (attempt row)
