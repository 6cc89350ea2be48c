-- A word is that of one instruction.
use Rattle.std.proofs.Common.{◌≡◌, ◌∙◌, ℕ, ◌+◌, ◌*◌, ◌<◌, ◌^◌, refl, ap, arith}
use Rattle.std.specs.Prelude.{ℤ, pos, negsuc, ◌≤ℤ◌}
use Rattle.std.proofs.lemmas.Int.{ints}
use Rattle.framehop_analysis.specs.PairsAarch64.{mode_bits, imm7_of}
use Rattle.framehop_analysis.specs.EpilogueInstructionsAarch64.{EpilogueInstruction, Load, Add, EpilogueFits, epilogue_word}
use Rattle.framehop_analysis.specs.declared.aarch64.instruction_analysis.pair.AddressingMode.{AddressingMode}
use Rattle.framehop_analysis.specs.declared.aarch64.instruction_analysis.pair.AddressingMode.TheVariants.{PostIndex, SignedOffset, PreIndex}
use Rattle.framehop_analysis.specs.declared.aarch64.instruction_analysis.pair.Pair.{Pair}

pub same_mode : (a b : AddressingMode) → mode_bits a ≡ mode_bits b → a ≡ b
same_mode PostIndex PostIndex is = refl
same_mode SignedOffset SignedOffset is = refl
same_mode PreIndex PreIndex is = refl
same_mode PostIndex SignedOffset is = absurd (omega (arith, is))
same_mode PostIndex PreIndex is = absurd (omega (arith, is))
same_mode SignedOffset PostIndex is = absurd (omega (arith, is))
same_mode SignedOffset PreIndex is = absurd (omega (arith, is))
same_mode PreIndex PostIndex is = absurd (omega (arith, is))
same_mode PreIndex SignedOffset is = absurd (omega (arith, is))

pub mode_few : (m : AddressingMode) → (0 < mode_bits m) × (mode_bits m < 4)
mode_few PostIndex = (omega arith, omega arith)
mode_few SignedOffset = (omega arith, omega arith)
mode_few PreIndex = (omega arith, omega arith)

pub same_words : (a b : ℤ) → negsuc 63 ≤ℤ a → a ≤ℤ pos 63 → negsuc 63 ≤ℤ b → b ≤ℤ pos 63 → imm7_of a ≡ imm7_of b → a ≡ b
same_words (pos a) (pos b) la ha lb hb is = ap pos is
same_words (pos a) (negsuc b) la ha lb hb is = absurd (omega (arith, ints, la, ha, lb, hb, is))
same_words (negsuc a) (pos b) la ha lb hb is = absurd (omega (arith, ints, la, ha, lb, hb, is))
same_words (negsuc a) (negsuc b) la ha lb hb is = let e : a ≡ b = omega (arith, ints, la, ha, lb, hb, is) in ap negsuc e

pub words_few : (z : ℤ) → negsuc 63 ≤ℤ z → z ≤ℤ pos 63 → imm7_of z < 128
words_few (pos n) low high = omega (arith, ints, high)
words_few (negsuc n) low high = omega arith

pub same_pair : (p q : Pair) → p.mode ≡ q.mode → p.offset_by_8 ≡ q.offset_by_8 → p.first ≡ q.first → p.second ≡ q.second → p ≡ q
same_pair p q modes words firsts seconds =
    let made : AddressingMode → ℤ → ℕ → ℕ → Pair = λ m w f s. record { mode = m; offset_by_8 = w; first = f; second = s } in
    ap (λ m. made m p.offset_by_8 p.first p.second) modes ∙ ap (λ w. made q.mode w p.first p.second) words
    ∙ ap (λ f. made q.mode q.offset_by_8 f p.second) firsts ∙ ap (λ s. made q.mode q.offset_by_8 q.first s) seconds

pub record IsFields (bit_30 mode words second first other_bit_30 mode2 words2 second2 first2 : ℕ) : Type 0 where
  pub bits_30 : bit_30 ≡ other_bit_30
  pub modes : mode ≡ mode2
  pub offsets : words ≡ words2
  pub seconds : second ≡ second2
  pub firsts : first ≡ first2

pub same_fields : (load bit_30 mode words second first other_bit_30 mode2 words2 second2 first2 : ℕ)
    → bit_30 < 2 → mode < 4 → words < 128 → second < 32 → first < 32 → other_bit_30 < 2 → mode2 < 4 → words2 < 128 → second2 < 32 → first2 < 32
    → 2 ^ 31 + 2 ^ 30 * bit_30 + 2 ^ 29 + 2 ^ 27 + 2 ^ 23 * mode + 2 ^ 22 * load + 2 ^ 15 * words + 2 ^ 10 * second + 2 ^ 5 * 31 + first
    ≡ 2 ^ 31 + 2 ^ 30 * other_bit_30 + 2 ^ 29 + 2 ^ 27 + 2 ^ 23 * mode2 + 2 ^ 22 * load + 2 ^ 15 * words2 + 2 ^ 10 * second2 + 2 ^ 5 * 31 + first2
    → IsFields bit_30 mode words second first other_bit_30 mode2 words2 second2 first2
same_fields load bit_30 mode words second first other_bit_30 mode2 words2 second2 first2 a b c d e f g h i j is =
    record { bits_30 = omega arith; modes = omega arith; offsets = omega arith; seconds = omega arith; firsts = omega arith }

pub same_instruction : (one other : EpilogueInstruction) → EpilogueFits one → EpilogueFits other → epilogue_word one ≡ epilogue_word other → one ≡ other
same_instruction (Add shift number) (Add shift2 number2) fits other_fits is =
    let shifts : shift ≡ shift2 = omega (arith, fits.0, fits.1, other_fits.0, other_fits.1, is) in
    let numbers : number ≡ number2 = omega (arith, fits.0, fits.1, other_fits.0, other_fits.1, is) in
    cc
same_instruction (Load bit_30 pair) (Load other_bit_30 pair2) fits other_fits is =
    let same = same_fields 1 bit_30 (mode_bits pair.mode) (imm7_of pair.offset_by_8) pair.second pair.first other_bit_30 (mode_bits pair2.mode) (imm7_of pair2.offset_by_8) pair2.second pair2.first
    fits.0 (mode_few pair.mode).1 (words_few pair.offset_by_8 fits.1.low fits.1.high) fits.1.second fits.1.first
    other_fits.0 (mode_few pair2.mode).1 (words_few pair2.offset_by_8 other_fits.1.low other_fits.1.high) other_fits.1.second other_fits.1.first is in
    let modes = same_mode pair.mode pair2.mode same.modes in
    let words = same_words pair.offset_by_8 pair2.offset_by_8 fits.1.low fits.1.high other_fits.1.low other_fits.1.high same.offsets in
    let firsts = same.firsts in
    let seconds = same.seconds in
    let bits_30 = same.bits_30 in
    let pairs : pair ≡ pair2 = same_pair pair pair2 modes words firsts seconds in
    ap (λ s. Load s pair) bits_30 ∙ ap (Load other_bit_30) pairs
same_instruction (Load bit_30 pair) (Add shift number) fits other_fits is =
    absurd (omega (arith, fits.0, other_fits.0, other_fits.1, fits.1.second, fits.1.first, mode_few pair.mode, words_few pair.offset_by_8 fits.1.low fits.1.high, is))
same_instruction (Add shift number) (Load bit_30 pair) fits other_fits is =
    absurd (omega (arith, other_fits.0, fits.0, fits.1, other_fits.1.second, other_fits.1.first, mode_few pair.mode, words_few pair.offset_by_8 other_fits.1.low other_fits.1.high, is))
