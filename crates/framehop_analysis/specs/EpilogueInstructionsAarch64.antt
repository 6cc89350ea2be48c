-- Instructions of aarch64 that stand before the end of a function, and the words that spell them.
--
-- Arm Architecture Reference Manual for A-profile architecture, C6.2 (ADD (immediate), LDP).
use Rattle.std.specs.List.{flat_map}
use Rattle.std.specs.Int.{to_le_bytes, w32}
use Rattle.std.specs.Prelude.{List, ℕ, ◌≡◌, ◌+◌, ◌*◌, ◌<◌, ◌^◌}
use Rattle.framehop_analysis.specs.PairsAarch64.{PairFits, pair_word}
use Rattle.framehop_analysis.specs.declared.aarch64.instruction_analysis.pair.Pair.{Pair}

-- `ldp` with its bit 30, and `add` to the stack pointer with its shift, by 12 bits for 1, and its number.
pub data EpilogueInstruction : Type 0 where
  Load : ℕ → Pair → EpilogueInstruction
  Add : ℕ → ℕ → EpilogueInstruction

-- Each field has a value that its bits can have.
abbrev pub EpilogueFits : EpilogueInstruction → Type 0
EpilogueFits (Load bit_30 pair) = (bit_30 < 2) × PairFits pair
EpilogueFits (Add shift number) = (shift < 2) × (number < 4096)

-- The word that adds a number to the stack pointer, or subtracts it, and writes a register: bits 23 to 31 tell which, bit 22, sh,
-- is the shift, imm12 is in bits 10 to 21, Rn, 31, in bits 5 to 9, Rd in bits 0 to 4.
abbrev pub immediate_word : ℕ → ℕ → ℕ → ℕ → ℕ
immediate_word operation shift number to = 2 ^ 23 * operation + 2 ^ 22 * shift + 2 ^ 10 * number + 2 ^ 5 * 31 + to

-- `add` of a number to the stack pointer that writes x29, the frame pointer, as `mov x29, sp`.
pub record SetsFramePointer (word : ℕ) : Type 0 where
  pub shift : ℕ
  pub number : ℕ
  pub shift_fits : shift < 2
  pub number_fits : number < 4096
  pub is : word ≡ immediate_word 0x122 shift number 29

-- The word of an instruction.
abbrev pub epilogue_word : EpilogueInstruction → ℕ
epilogue_word (Load bit_30 pair) = pair_word 1 bit_30 pair
epilogue_word (Add shift number) = immediate_word 0x122 shift number 31

-- The bytes of instructions, one after the other, each word with its lowest byte first.
abbrev pub epilogue_spelling : List EpilogueInstruction → List ℕ
epilogue_spelling instructions = flat_map (λ instruction. to_le_bytes w32 (epilogue_word instruction)) instructions
