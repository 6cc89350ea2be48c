-- The caller that a row answers a step with, and the row's CFA in the frame (DWARF 5, 6.4.1), on any architecture.
use Rattle.std.specs.Prelude.{◌≡◌, ℕ, Bool, Option, Some, Ok}
use Rattle.dwarf_constants.specs.declared.common.Register.{Register}
use Rattle.dwarf_readers.specs.Stretch.{Stretch}
use Rattle.dwarf_frame_rows.specs.Row.{Row}
use Rattle.framehop_registers.specs.Callback.{Words}
use Rattle.framehop_rules.specs.Outcome.{Outcome, Answers, Caller}
use Rattle.framehop_rows.specs.Columns.{Sources, cfa_by}
use Rattle.framehop_rows.specs.RowAttempt.{RowAttempt, Translates, Gives}
use Rattle.framehop_rows.specs.RowSources.{plus, value_by_expression}

-- A row's attempt answers a step with this caller: by the rule that says the row, or by the row itself.
abbrev pub RowAnswers : {Rule Registers : Type 0} → (Rule → Bool → Registers → Words → Outcome (Caller Registers)) → Bool
    → Registers → Words → RowAttempt Rule Registers → Caller Registers → Type 0
RowAnswers meaning first registers words (Translates rule) caller = meaning rule first registers words ≡ Answers caller
RowAnswers meaning first registers words (Gives given) caller = given registers words ≡ Ok caller

-- what the CFA of a row is evaluated by in a frame: a register plus an offset in whole numbers, or an expression of the section
abbrev pub cfa_sources : (limit : Option ℕ) → (address_size : ℕ) → Stretch → (Register → Option ℕ) → Sources
cfa_sources limit address_size section registers = record {
  sum = plus;
  registers = registers;
  value = value_by_expression limit address_size section registers;
}

-- If a row answers a step from a frame with these registers, the caller's stack pointer is the row's CFA.
abbrev pub CfaBecomesSp : {Rule Registers : Type 0} → (Rule → Bool → Registers → Words → Outcome (Caller Registers))
    → (Bool → Option ℕ → ℕ → Stretch → Row ℕ → RowAttempt Rule Registers) → (Registers → Register → Option ℕ) → (sp : Registers → ℕ)
    → Registers → Type 0
CfaBecomesSp {Registers = Registers} meaning row_attempt register_value sp registers =
    (first : Bool) (limit : Option ℕ) (address_size : ℕ) (section : Stretch) (row : Row ℕ) (words : Words) (caller : Caller Registers)
    → RowAnswers meaning first registers words (row_attempt first limit address_size section row) caller
    → cfa_by (cfa_sources limit address_size section (register_value registers)) row.cfa ≡ Some (sp caller.registers)
