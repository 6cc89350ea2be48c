-- Words of private functions' contracts alone: a frame pointer that is stored, and pops as the code makes them, which reads all
-- words before it writes a register.
use Rattle.std.specs.Prelude.{ℕ, zero, suc, ◌≡◌, ℤ, pos, ◌+ℤ◌, Bool, true, List, [], ◌∷◌, length, Result}
use Rattle.framehop_registers.specs.Callback.{Words}
use Rattle.framehop_registers.specs.declared.error.Error.{Error}
use Rattle.framehop_registers.specs.declared.x86_64.unwindregs.UnwindRegsX86_64.{UnwindRegsX86_64}
use Rattle.framehop_rules.specs.Outcome.{Outcome, Answers, Caller, and_then, address, word, outcome_of}
use Rattle.framehop_rules.specs.RuleMeaning.{StackFrame, restored_frame, rule_meaning}
use Rattle.framehop_rules.specs.RuleReads.{rule_reads}
use Rattle.framehop_rules.specs.declared.x86_64.unwind_rule.UnwindRuleX86_64.TheVariants.{OffsetSpAndPopRegisters}

-- The stack pointer goes up by these bytes, the frame pointer is stored at an offset from it.
abbrev pub restored_by : Bool → UnwindRegsX86_64 → (bytes : ℕ) → (offset : ℤ) → Words → Outcome StackFrame
restored_by is_first registers bytes offset words = restored_frame is_first registers words bytes offset

-- The n words from an address on, one after the other, and the address after them.
unfoldable pub words_from : Words → ℕ → ℕ → Outcome (List ℕ × ℕ)
words_from words zero at = Answers ([], at)
words_from words (suc count) at =
    and_then (word words at) (λ value.
    and_then (address (pos at +ℤ pos 8)) (λ next.
    and_then (words_from words count next) (λ read.
    Answers (value ∷ read.0, read.1))))

-- The words that are there after the call are those from an address on, as many as there was room for; the result is the
-- address after them.
abbrev pub AreRead : (room there : List ℕ) → (from : ℕ) → Result ℕ Error → Words → Type 0
AreRead room there from result words =
    and_then (outcome_of result) (λ next. Answers (there, next)) ≡ words_from words (length room) from

-- The meaning of a rule that pops registers: it is the same in first and in later frames.
abbrev pub pops_meaning : (offset count number : ℕ) → UnwindRegsX86_64 → Words → Outcome (Caller UnwindRegsX86_64)
pops_meaning offset count number registers words =
    rule_meaning (OffsetSpAndPopRegisters offset count number) true registers words

-- What it reads.
abbrev pub pops_reads : (offset count number : ℕ) → UnwindRegsX86_64 → Words → List ℕ
pops_reads offset count number registers words =
    rule_reads (OffsetSpAndPopRegisters offset count number) true registers words
