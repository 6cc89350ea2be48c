-- Sequences of what a function's end does to the stack pointer and the registers, and the unwind rules for them.
use Rattle.std.specs.Prelude.{◌≡◌, ◌<◌, ◌^◌, ℕ, zero, ◌*◌, Bool, List, [], ◌∷◌, length, map, Option, Some, None, unwrap_or}
use Rattle.std.specs.List.{AllZip}
use Rattle.framehop_registers.specs.Callback.{Words}
use Rattle.framehop_rules.specs.Outcome.{Outcome, Answers, and_then, Caller}
use Rattle.framehop_registers.specs.PopLists.{IsPopList, order_number}
use Rattle.framehop_registers.specs.Registers.{sp_of}
use Rattle.framehop_rules.specs.Pops.{raised_registers, registers_after_pop}
use Rattle.framehop_rules.specs.RuleMeaning.{rule_meaning}
use Rattle.framehop_rules.specs.declared.x86_64.offset_or_pop.OffsetOrPop.{OffsetOrPop}
use Rattle.framehop_rules.specs.declared.x86_64.offset_or_pop.OffsetOrPop.TheVariants as operation
use Rattle.framehop_rules.specs.declared.x86_64.unwind_rule.UnwindRuleX86_64.{UnwindRuleX86_64}
use Rattle.framehop_rules.specs.declared.x86_64.unwind_rule.UnwindRuleX86_64.TheVariants.{JustReturn, OffsetSpAndPopRegisters}
use Rattle.framehop_registers.specs.declared.x86_64.unwindregs.Reg.{Reg}
use Rattle.framehop_registers.specs.declared.x86_64.unwindregs.UnwindRegsX86_64.{UnwindRegsX86_64}

-- What an operation does. What is neither an offset nor a pop isn't followed.
abbrev pub registers_after_operation : OffsetOrPop → UnwindRegsX86_64 → Words → Outcome UnwindRegsX86_64
registers_after_operation (operation.OffsetBy8 x) registers words = raised_registers registers (8 * x)
registers_after_operation (operation.Pop register) registers words = registers_after_pop register registers words
registers_after_operation operation.None registers words = Answers registers

-- What operations do one after the other.
abbrev pub registers_after_operations : List OffsetOrPop → UnwindRegsX86_64 → Words → Outcome UnwindRegsX86_64
registers_after_operations [] registers words = Answers registers
registers_after_operations (first ∷ more) registers words =
    and_then (registers_after_operation first registers words) (λ next.
    registers_after_operations more next words)

-- The outcome of a sequence: its operations are done, and then the function returns.
abbrev pub sequence_meaning : List OffsetOrPop → Bool → UnwindRegsX86_64 → Words → Outcome (Caller UnwindRegsX86_64)
sequence_meaning operations is_first registers words =
    and_then (registers_after_operations operations registers words) (λ next.
    rule_meaning JustReturn is_first next words)

-- A rule means what operations and a return do, in each frame whose stack pointer has 64 bits.
abbrev pub MeansSequence : UnwindRuleX86_64 → List OffsetOrPop → Type 0
MeansSequence rule operations =
    (is_first : Bool) (registers : UnwindRegsX86_64) (words : Words) → sp_of registers < 2 ^ 64
    → rule_meaning rule is_first registers words ≡ sequence_meaning operations is_first registers words

-- A sequence of an offset, if there is one, and then pops.
abbrev pub offset_then_pops : Option ℕ → List Reg → List OffsetOrPop
offset_then_pops None registers = map operation.Pop registers
offset_then_pops (Some offset) registers = operation.OffsetBy8 offset ∷ map operation.Pop registers

-- The rule for an offset and a pop list.
abbrev pub pop_rule : ℕ → List Reg → UnwindRuleX86_64
pop_rule zero [] = JustReturn
pop_rule offset registers = OffsetSpAndPopRegisters offset (length registers) (order_number registers)

-- The rule of a sequence, which is an offset, if there is one, and pops of a pop list.
pub record IsRuleOf (operations : List OffsetOrPop) (rule : UnwindRuleX86_64) : Type 0 where
  pub offset : Option ℕ
  pub registers : List Reg
  pub sequence : operations ≡ offset_then_pops offset registers
  pub pops : IsPopList registers
  pub is : rule ≡ pop_rule (unwrap_or offset 0) registers

-- No rule is for a sequence: it is anything else.
abbrev pub HasNoRule : List OffsetOrPop → Type 0
HasNoRule operations = (offset : Option ℕ) (registers : List Reg)
    → operations ≡ offset_then_pops offset registers → IsPopList registers → ⊥

-- The rule of a sequence, if it has one.
abbrev pub IsRuleFor : List OffsetOrPop → Option UnwindRuleX86_64 → Type 0
IsRuleFor operations None = HasNoRule operations
IsRuleFor operations (Some rule) = IsRuleOf operations rule

-- The rule of a sequence that is given as items, one for each operation: of those that are read.
abbrev pub IsRuleOfItems : {Item : Type 0} → (AreRead : List Item → Type 0) → (converts : Item → OffsetOrPop → Type 0)
    → Option UnwindRuleX86_64 → Type 0
IsRuleOfItems {Item} AreRead converts result =
    (items : List Item) × (operations : List OffsetOrPop)
    × AreRead items
    × AllZip converts items operations
    × IsRuleFor operations result
