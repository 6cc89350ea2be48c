-- Pops: registers that take words from the stack, over a map of words and unbounded numbers.
use Rattle.std.specs.Prelude.{ℕ, pos, ◌+ℤ◌, List, [], ◌∷◌}
use Rattle.framehop_registers.specs.Callback.{Words}
use Rattle.framehop_rules.specs.Outcome.{Outcome, Answers, and_then, address, word}
use Rattle.framehop_registers.specs.Registers.{sp_of, with_register}
use Rattle.framehop_registers.specs.declared.x86_64.unwindregs.Reg.{Reg}
use Rattle.framehop_registers.specs.declared.x86_64.unwindregs.Reg.TheVariants.{RSP}
use Rattle.framehop_registers.specs.declared.x86_64.unwindregs.UnwindRegsX86_64.{UnwindRegsX86_64}

-- The stack pointer goes up by these bytes.
abbrev pub raised_registers : UnwindRegsX86_64 → ℕ → Outcome UnwindRegsX86_64
raised_registers registers bytes =
    and_then (address (pos (sp_of registers) +ℤ pos bytes)) (λ sp.
    Answers (with_register registers RSP sp))

-- A register takes the word at the stack pointer, which then goes up by 8.
abbrev pub registers_after_pop : Reg → UnwindRegsX86_64 → Words → Outcome UnwindRegsX86_64
registers_after_pop register registers words =
    and_then (word words (sp_of registers)) (λ value.
    and_then (address (pos (sp_of registers) +ℤ pos 8)) (λ sp.
    Answers (with_register (with_register registers register value) RSP sp)))

-- Registers are popped one after the other.
abbrev pub registers_after_pops : List Reg → UnwindRegsX86_64 → Words → Outcome UnwindRegsX86_64
registers_after_pops [] registers words = Answers registers
registers_after_pops (register ∷ more) registers words =
    and_then (registers_after_pop register registers words) (λ next.
    registers_after_pops more next words)
