-- Loads and stores of two registers relative to the stack pointer, and the words that spell them.
--
-- Arm Architecture Reference Manual for A-profile architecture, C4.1 (encodings: load/store register pair), C6.2 (LDP, STP).
use Rattle.std.specs.Prelude.{ℕ, ◌≡◌, ◌+◌, ◌*◌, ◌-◌, ◌<◌, ◌^◌, ℤ, pos, negsuc, ◌≤ℤ◌}
use Rattle.framehop_analysis.specs.declared.aarch64.instruction_analysis.pair.AddressingMode.{AddressingMode}
use Rattle.framehop_analysis.specs.declared.aarch64.instruction_analysis.pair.AddressingMode.TheVariants.{PostIndex, SignedOffset, PreIndex}
use Rattle.framehop_analysis.specs.declared.aarch64.instruction_analysis.pair.Pair.{Pair}

-- Bits 23 and 24 tell how the address is made.
abbrev pub mode_bits : AddressingMode → ℕ
mode_bits PostIndex = 1
mode_bits SignedOffset = 2
mode_bits PreIndex = 3

-- Bits 15 to 21, imm7: the offset by 8, from -64 to 63, modulo 128.
abbrev pub imm7_of : ℤ → ℕ
imm7_of (pos n) = n
imm7_of (negsuc n) = 127 - n

-- Each field has a value that its bits can have.
pub record PairFits (pair : Pair) : Type 0 where
  pub low : negsuc 63 ≤ℤ pair.offset_by_8
  pub high : pair.offset_by_8 ≤ℤ pos 63
  pub first : pair.first < 32
  pub second : pair.second < 32

-- The word of a pair: bit 31 of opc is set, and bit 30 is free, since the analysis doesn't look at it; bits 29 to 25 are 10100,
-- bit 22, L, is set in a load; Rt2 is in bits 10 to 14, Rn, 31 for the stack pointer, in bits 5 to 9, Rt in bits 0 to 4.
abbrev pub pair_word : ℕ → ℕ → Pair → ℕ
pair_word load bit_30 pair =
    2 ^ 31 + 2 ^ 30 * bit_30 + 2 ^ 29 + 2 ^ 27 + 2 ^ 23 * mode_bits pair.mode + 2 ^ 22 * load
    + 2 ^ 15 * imm7_of pair.offset_by_8 + 2 ^ 10 * pair.second + 2 ^ 5 * 31 + pair.first

-- The word is one of those of the pair.
pub record IsPairWord (load : ℕ) (word : ℕ) (pair : Pair) : Type 0 where
  pub fits : PairFits pair
  pub bit_30 : ℕ
  pub bit_30_fits : bit_30 < 2
  pub is : word ≡ pair_word load bit_30 pair
