-- What the unwind rules of an architecture have to do with the rows that they say.
use Rattle.std.specs.Prelude.{◌≡◌, ℕ, Bool, Option, Some}
use Rattle.framehop_registers.specs.Callback.{Words}
use Rattle.framehop_rules.specs.Outcome.{Outcome, Answers, Caller}
use Rattle.dwarf_frame_parts.specs.declared.parts.Parts.{Parts}

-- If a rule says a row exactly and gives a caller, that is the row's, for all registers and all words of the stack.
abbrev pub RulesAnswerAsRows : {Rule Registers : Type 0} → (scaled_rule : Parts ℕ → Option Rule)
    → (rule_meaning : Rule → Bool → Registers → Words → Outcome (Caller Registers))
    → (row_answer : Registers → Words → Parts ℕ → Option (Caller Registers)) → Type 0
RulesAnswerAsRows {Rule} {Registers} scaled_rule rule_meaning row_answer =
    (parts : Parts ℕ) (rule : Rule) (first : Bool) (registers : Registers) (words : Words) (caller : Caller Registers)
    → scaled_rule parts ≡ Some rule → rule_meaning rule first registers words ≡ Answers caller
    → row_answer registers words parts ≡ Some caller
