-- What the code keeps of an instruction of an epilogue, and of all of them.
use Rattle.std.specs.Prelude.{ℕ, ◌≡◌, ◌≢◌, ◌<◌, ◌*◌, ◌^◌, ◌==◌, if◌then◌else◌, ℤ, pos, ◌+ℤ◌, List, ◌++◌, Option, Some, None}
use Rattle.std.specs.Int.{to_le_bytes, w32}
use Rattle.framehop_analysis.specs.EpilogueInstructionsAarch64.{EpilogueInstruction, Load, Add, EpilogueFits, epilogue_word, immediate_word}
use Rattle.framehop_analysis.specs.MachineAarch64.{access_offset, raise}
use Rattle.framehop_analysis.specs.EpilogueAarch64.{IsEnd, IsRuleOfEpilogue, FieldsFit, raise_of_all, last_load_offset}
use Rattle.framehop_rules.specs.declared.aarch64.unwind_rule.UnwindRuleAarch64.{UnwindRuleAarch64}
use Rattle.framehop_analysis.specs.declared.aarch64.instruction_analysis.epilogue.Restored.{Restored}
use Rattle.framehop_analysis.specs.declared.aarch64.instruction_analysis.epilogue.ShortRestored.{ShortRestored}
use Rattle.framehop_analysis.specs.declared.aarch64.instruction_analysis.epilogue.EpilogueInstructionType.{EpilogueInstructionType}
use Rattle.framehop_analysis.specs.declared.aarch64.instruction_analysis.epilogue.EpilogueInstructionType.TheVariants.{LoadPair, AddToSp}

-- It is kept of this instruction.
abbrev pub IsTypeOf : EpilogueInstructionType → EpilogueInstruction → Type 0
IsTypeOf (LoadPair pair) instruction = (bit_30 : ℕ) × (instruction ≡ Load bit_30 pair)
IsTypeOf (AddToSp bytes) instruction = (shift : ℕ) × (number : ℕ) × (instruction ≡ Add shift number) × (bytes ≡ number * 4096 ^ shift)

-- The word spells an instruction of which this is kept.
abbrev pub IsTypeOfWord : ℕ → EpilogueInstructionType → Type 0
IsTypeOfWord word kind = (instruction : EpilogueInstruction) × EpilogueFits instruction × (word ≡ epilogue_word instruction) × IsTypeOf kind instruction

-- The word spells no instruction of epilogues.
abbrev pub SpellsNone : ℕ → Type 0
SpellsNone word = (instruction : EpilogueInstruction) → EpilogueFits instruction → word ≢ epilogue_word instruction

-- The bytes begin with an instruction of which this is kept, and go on with others.
abbrev pub BeginsWithType : List ℕ → EpilogueInstructionType → List ℕ → Type 0
BeginsWithType bytes kind suffix =
    (instruction : EpilogueInstruction) × EpilogueFits instruction × (bytes ≡ to_le_bytes w32 (epilogue_word instruction) ++ suffix) × IsTypeOf kind instruction

-- The bytes begin with no instruction of epilogues.
abbrev pub BeginsWithNone : List ℕ → Type 0
BeginsWithNone bytes = (suffix : List ℕ) (instruction : EpilogueInstruction) → EpilogueFits instruction → bytes ≢ to_le_bytes w32 (epilogue_word instruction) ++ suffix

-- The word adds so many bytes to the stack pointer, or subtracts them, by its upper bits, and writes a register.
abbrev pub IsImmediate : ℕ → ℕ → ℕ → ℕ → Type 0
IsImmediate operation to word bytes =
    (shift : ℕ) × (number : ℕ) × (shift < 2) × (number < 4096) × (word ≡ immediate_word operation shift number to) × (bytes ≡ number * 4096 ^ shift)

-- The word does so with no number.
abbrev pub IsNoImmediate : ℕ → ℕ → ℕ → Type 0
IsNoImmediate operation to word = (shift number : ℕ) → shift < 2 → number < 4096 → word ≢ immediate_word operation shift number to

-- By how many bytes it raises the stack pointer.
abbrev pub raise_of_type : EpilogueInstructionType → ℤ
raise_of_type (LoadPair pair) = raise pair
raise_of_type (AddToSp bytes) = pos bytes

-- The offset from which a register is loaded last, once one more instruction follows.
abbrev pub load_offset_after : ℕ → EpilogueInstructionType → ℤ → Option ℤ → Option ℤ
load_offset_after number (LoadPair pair) raised before =
    if pair.second == number then Some ((raised +ℤ access_offset pair) +ℤ pos 8) else
    if pair.first == number then Some (raised +ℤ access_offset pair) else before
load_offset_after number (AddToSp bytes) raised before = before

-- The offset from which a register is loaded last, if it is then loaded at an offset, or isn't, once the stack pointer has been raised.
abbrev pub carried : ℤ → Option ℤ → Option ℤ → Option ℤ
carried raised before None = before
carried raised before (Some bytes) = Some (raised +ℤ bytes)

-- The same numbers, of any size.
abbrev pub restored_of : ShortRestored → Restored
restored_of short = record { raise = short.raise; fp = short.fp; lr = short.lr }

-- What is kept of the instructions is how far they move the stack pointer, and from where they load x29 and x30.
pub record Restores (instructions : List EpilogueInstruction) (restored : Restored) : Type 0 where
  pub raise : restored.raise ≡ raise_of_all instructions
  pub fp : restored.fp ≡ last_load_offset 29 instructions
  pub lr : restored.lr ≡ last_load_offset 30 instructions

-- It is kept of the instructions that some bytes begin with, up to where the function is left.
abbrev pub IsRestoredBy : List ℕ → Restored → Type 0
IsRestoredBy bytes restored = (instructions : List EpilogueInstruction) × IsEnd bytes instructions × Restores instructions restored

-- Whatever instructions the bytes begin with up to an end, no rule says so of them.
abbrev pub HasNoRule : List ℕ → Type 0
HasNoRule bytes = (list : List EpilogueInstruction) (rule : UnwindRuleAarch64) → IsEnd bytes list → FieldsFit rule → ¬ IsRuleOfEpilogue list rule
