-- Words of instructions, by their bits.
use Rattle.std.proofs.Common.{◌≡◌, ℕ, ◌+◌, ◌*◌, ◌<◌, ◌^◌, arith}
use Rattle.std.specs.Prelude.{ℤ, pos, negsuc, ◌≤ℤ◌, ◌/◌, ◌%◌}
use Rattle.std.proofs.lemmas.Int.{ints, to_z-of_z}
use Rattle.std.proofs.Common.{to_z, of_z, w8, SFits, rules}
use Rattle.framehop_analysis.specs.PairsAarch64.{mode_bits, imm7_of, IsPairWord}
use Rattle.framehop_analysis.specs.declared.aarch64.instruction_analysis.pair.AddressingMode.{AddressingMode}
use Rattle.framehop_analysis.specs.declared.aarch64.instruction_analysis.pair.AddressingMode.TheVariants.{PostIndex, SignedOffset, PreIndex}
use Rattle.framehop_analysis.specs.declared.aarch64.instruction_analysis.pair.Pair.{Pair}

-- ---- the fields of a pair

-- the word from its fields, as quotients and remainders
whole : (word load : ℕ) → word < 2 ^ 32 → word / 2 ^ 22 % 2 ≡ load → word / 2 ^ 31 ≡ 1 → word / 2 ^ 25 % 2 ^ 5 ≡ 20 → word / 2 ^ 5 % 2 ^ 5 ≡ 31
    → word ≡ 2 ^ 31 + 2 ^ 30 * (word / 2 ^ 30 % 2) + 2 ^ 29 + 2 ^ 27 + 2 ^ 23 * (word / 2 ^ 23 % 4) + 2 ^ 22 * load + 2 ^ 15 * (word / 2 ^ 15 % 128) + 2 ^ 10 * (word / 2 ^ 10 % 32) + 2 ^ 5 * 31 + word % 32
whole word load fits load_is top class base = omega arith

-- and back
pub record HasFields (word load_is mode_is : ℕ) : Type 0 where
  pub top : word / 2 ^ 31 ≡ 1
  pub class : word / 2 ^ 25 % 2 ^ 5 ≡ 20
  pub base : word / 2 ^ 5 % 2 ^ 5 ≡ 31
  pub mode : word / 2 ^ 23 % 4 ≡ mode_is
  pub load : word / 2 ^ 22 % 2 ≡ load_is

fields : (word load bit_30 mode words second first : ℕ) → load < 2 → bit_30 < 2 → mode < 4 → words < 128 → second < 32 → first < 32
    → word ≡ 2 ^ 31 + 2 ^ 30 * bit_30 + 2 ^ 29 + 2 ^ 27 + 2 ^ 23 * mode + 2 ^ 22 * load + 2 ^ 15 * words + 2 ^ 10 * second + 2 ^ 5 * 31 + first → HasFields word load mode
fields word load bit_30 mode words second first in_load in_bit_30 in_mode in_words in_second in_first is =
    record { top = omega arith; class = omega arith; base = omega arith; mode = omega arith; load = omega arith }

-- what the code tests
pub accesses : (word load : ℕ) (pair : Pair) → word < 2 ^ 32 → word / 2 ^ 22 % 2 ≡ load → word / 2 ^ 31 ≡ 1 → word / 2 ^ 25 % 2 ^ 5 ≡ 20 → word / 2 ^ 5 % 2 ^ 5 ≡ 31
    → mode_bits pair.mode ≡ word / 2 ^ 23 % 4 → imm7_of pair.offset_by_8 ≡ word / 2 ^ 15 % 128
    → pair.first ≡ word % 32 → pair.second ≡ word / 2 ^ 10 % 32
    → negsuc 63 ≤ℤ pair.offset_by_8 → pair.offset_by_8 ≤ℤ pos 63 → IsPairWord load word pair
accesses word load pair fits load_is top class base mode words first second low high =
    let is = whole word load fits load_is top class base in
    record {
      fits = record { low = low; high = high; first = omega (arith, first); second = omega (arith, second) };
      bit_30 = word / 2 ^ 30 % 2;
      bit_30_fits = omega arith;
      is = omega (arith, is, mode, words, first, second);
    }

mode_few : (m : AddressingMode) → mode_bits m < 4
mode_few PostIndex = omega arith
mode_few SignedOffset = omega arith
mode_few PreIndex = omega arith

words_few : (z : ℤ) → z ≤ℤ pos 63 → imm7_of z < 128
words_few (pos n) high = omega (arith, ints, high)
words_few (negsuc n) high = omega arith

pub told : (word load : ℕ) (pair : Pair) → load < 2 → IsPairWord load word pair → HasFields word load (mode_bits pair.mode)
told word load pair in_load spells =
    fields word load spells.bit_30 (mode_bits pair.mode) (imm7_of pair.offset_by_8) pair.second pair.first in_load spells.bit_30_fits (mode_few pair.mode)
    (words_few pair.offset_by_8 spells.fits.high) spells.fits.second spells.fits.first spells.is

-- eight bits hold an offset
pub kept : (z : ℤ) → negsuc 63 ≤ℤ z → z ≤ℤ pos 63 → to_z w8 (of_z w8 z) ≡ z
kept z low high = let within : SFits w8 z = search (rules, ints, low, high) in to_z-of_z w8 z within

-- ---- additions and subtractions of a number

pub immediate_is : (word operation to : ℕ) → word < 2 ^ 32 → word / 2 ^ 23 ≡ operation → word / 2 ^ 5 % 2 ^ 5 ≡ 31 → word % 2 ^ 5 ≡ to
    → word ≡ 2 ^ 23 * operation + 2 ^ 22 * (word / 2 ^ 22 % 2) + 2 ^ 10 * (word / 2 ^ 10 % 4096) + 2 ^ 5 * 31 + to
immediate_is word operation to fits top from low = omega (arith, top, from, low)

pub record HasParts (word operation to : ℕ) : Type 0 where
  pub top : word / 2 ^ 23 ≡ operation
  pub from : word / 2 ^ 5 % 2 ^ 5 ≡ 31
  pub low : word % 2 ^ 5 ≡ to

pub immediate_has : (word operation shift number to : ℕ) → shift < 2 → number < 4096 → to < 32 → word ≡ 2 ^ 23 * operation + 2 ^ 22 * shift + 2 ^ 10 * number + 2 ^ 5 * 31 + to → HasParts word operation to
immediate_has word operation shift number to in_shift in_number in_to is = record { top = omega arith; from = omega arith; low = omega arith }
