-- Prologs that a rule's sequence undoes: its reverse, run forward.
use Rattle.std.specs.Prelude.{ℕ, ◌≡◌, ◌+◌, ◌-◌, ◌*◌, ◌^◌, ◌<◌, ◌≤◌, ◌⊎◌, Bool, List, [], ◌∷◌, Some}
use Rattle.framehop_registers.specs.Callback.{Words}
use Rattle.framehop_registers.specs.Registers.{HasAllRegisters, sp_of, register_of, with_register}
use Rattle.framehop_registers.specs.declared.x86_64.unwindregs.Reg.{Reg}
use Rattle.framehop_registers.specs.declared.x86_64.unwindregs.Reg.TheVariants.{RSP}
use Rattle.framehop_registers.specs.declared.x86_64.unwindregs.UnwindRegsX86_64.{UnwindRegsX86_64}
use Rattle.framehop_rules.specs.Outcome.{Answers, Caller}
use Rattle.framehop_rules.specs.RuleMeaning.{rule_meaning}
use Rattle.framehop_rules.specs.declared.x86_64.offset_or_pop.OffsetOrPop.{OffsetOrPop}
use Rattle.framehop_rules.specs.declared.x86_64.offset_or_pop.OffsetOrPop.TheVariants as part
use Rattle.framehop_rules.specs.declared.x86_64.unwind_rule.UnwindRuleX86_64.{UnwindRuleX86_64}
use Rattle.framehop_pe.specs.PeSteps.{SameRegisters}

-- A state of the processor: its registers, and the word at each address.
pub record State : Type 0 where
  pub registers : UnwindRegsX86_64
  pub memory : Words

-- All sixteen registers are there, and the stack pointer has 64 bits, as in every value of a program.
pub record IsOfProcessor (state : State) : Type 0 where
  pub all : HasAllRegisters state.registers
  pub fits : sp_of state.registers < 2 ^ 64

-- A register was pushed. Words that overlap the one that was written may be anything.
pub record IsPushed (register : Reg) (before after : State) : Type 0 where
  pub room : 8 ≤ sp_of before.registers
  pub registers : after.registers ≡ with_register before.registers RSP (sp_of before.registers - 8)
  pub stored : after.memory (sp_of before.registers - 8) ≡ Some (register_of before.registers register)
  pub kept : (at : ℕ) → (at + 16 ≤ sp_of before.registers) ⊎ (sp_of before.registers ≤ at) → after.memory at ≡ before.memory at

-- The stack pointer went down by so many bytes.
pub record IsLowered (bytes : ℕ) (before after : State) : Type 0 where
  pub room : bytes ≤ sp_of before.registers
  pub registers : after.registers ≡ with_register before.registers RSP (sp_of before.registers - bytes)
  pub memory : after.memory ≡ before.memory

-- The reverse of a part of a sequence was done.
abbrev pub IsDone : OffsetOrPop → State → State → Type 0
IsDone (part.OffsetBy8 words) before after = IsLowered (8 * words) before after
IsDone (part.Pop register) before after = IsPushed register before after
IsDone part.None before after = ⊥

-- The reverse of a sequence was done: its last part first.
abbrev pub AreDone : List OffsetOrPop → State → State → Type 0
AreDone [] before after = before ≡ after
AreDone (one ∷ more) before after = (between : State) × AreDone more before between × IsDone one between after

-- Each word that a map has stands in memory.
abbrev pub IsPartOf : Words → Words → Type 0
IsPartOf words memory = (at value : ℕ) → words at ≡ Some value → memory at ≡ Some value

-- The caller after a return from a state.
pub record IsReturnFrom (state : State) (caller : Caller UnwindRegsX86_64) : Type 0 where
  pub address : state.memory (sp_of state.registers) ≡ Some caller.return_address
  pub same : SameRegisters caller.registers (with_register state.registers RSP (sp_of state.registers + 8))

-- Where a rule gives a caller in the state after, by words that are part of its memory, it is the one after a return from the state
-- before.
abbrev pub LeadsBack : UnwindRuleX86_64 → State → State → Type 0
LeadsBack rule before after =
    (is_first : Bool) (words : Words) (caller : Caller UnwindRegsX86_64) → IsPartOf words after.memory
    → rule_meaning rule is_first after.registers words ≡ Answers caller → IsReturnFrom before caller

-- The same from each state before to which the reverse of the sequence, run forward, leads.
abbrev pub LeadsBackFrom : List OffsetOrPop → UnwindRuleX86_64 → Type 0
LeadsBackFrom operations rule = (before after : State) → IsOfProcessor before → AreDone operations before after → LeadsBack rule before after
