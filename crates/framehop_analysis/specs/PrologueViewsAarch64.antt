-- What the code keeps of an instruction of a prologue.
use Rattle.std.specs.Int.{to_le_bytes, w32}
use Rattle.std.specs.Prelude.{ℕ, ◌≡◌, ◌≢◌, ◌*◌, ◌^◌, ℤ, List, ◌++◌}
use Rattle.framehop_analysis.specs.PrologueInstructionsAarch64.{PrologueInstruction, Sign, Store, Sub, PrologueFits, prologue_word, lowering, lowering_of_all}
use Rattle.framehop_analysis.specs.PrologueAarch64.{IsLongestRun}
use Rattle.framehop_analysis.specs.declared.aarch64.instruction_analysis.prologue.PrologueInstructionType.{PrologueInstructionType}
use Rattle.framehop_analysis.specs.declared.aarch64.instruction_analysis.prologue.PrologueInstructionType.TheVariants.{SignReturnAddress, StorePair, SubtractFromSp}

-- It is kept of this instruction.
abbrev pub IsTypeOf : PrologueInstructionType → PrologueInstruction → Type 0
IsTypeOf SignReturnAddress instruction = instruction ≡ Sign
IsTypeOf (StorePair pair) instruction = (bit_30 : ℕ) × (instruction ≡ Store bit_30 pair)
IsTypeOf (SubtractFromSp bytes) instruction = (shift : ℕ) × (number : ℕ) × (instruction ≡ Sub shift number) × (bytes ≡ number * 4096 ^ shift)

-- The word spells an instruction of which this is kept.
abbrev pub IsTypeOfWord : ℕ → PrologueInstructionType → Type 0
IsTypeOfWord word kind = (instruction : PrologueInstruction) × PrologueFits instruction × (word ≡ prologue_word instruction) × IsTypeOf kind instruction

-- The word spells no instruction of prologues.
abbrev pub SpellsNone : ℕ → Type 0
SpellsNone word = (instruction : PrologueInstruction) → PrologueFits instruction → word ≢ prologue_word instruction

-- The word spells an instruction that lowers the stack pointer by so many bytes.
abbrev pub IsLoweringOfWord : ℕ → ℤ → Type 0
IsLoweringOfWord word bytes = (instruction : PrologueInstruction) × PrologueFits instruction × (word ≡ prologue_word instruction) × (bytes ≡ lowering instruction)

-- The bytes end with such an instruction.
abbrev pub EndsWithLowering : List ℕ → List ℕ → ℤ → Type 0
EndsWithLowering text prefix bytes =
    (instruction : PrologueInstruction) × PrologueFits instruction × (text ≡ prefix ++ to_le_bytes w32 (prologue_word instruction)) × (bytes ≡ lowering instruction)

-- The bytes end with no instruction of prologues.
abbrev pub EndsWithNone : List ℕ → Type 0
EndsWithNone bytes = (prefix : List ℕ) (instruction : PrologueInstruction) → PrologueFits instruction → bytes ≢ prefix ++ to_le_bytes w32 (prologue_word instruction)

-- The longest run of instructions that the bytes end with lowers the stack pointer by so many bytes.
abbrev pub IsLoweredBy : List ℕ → ℤ → Type 0
IsLoweredBy bytes lowered =
    (prefix : List ℕ) × (instructions : List PrologueInstruction) × IsLongestRun bytes prefix instructions × (lowered ≡ lowering_of_all instructions)
