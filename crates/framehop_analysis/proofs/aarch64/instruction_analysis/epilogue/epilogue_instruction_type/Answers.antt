use Rattle.std.proofs.Common.{◌≢◌, ◌<◌, ℕ, refl}
use Rattle.framehop_analysis.specs.PairsAarch64.{IsPairWord}
use Rattle.framehop_analysis.specs.EpilogueInstructionsAarch64.{EpilogueInstruction, Load, Add, EpilogueFits, epilogue_word}
use Rattle.framehop_analysis.specs.declared.aarch64.instruction_analysis.pair.Pair.{Pair}
use Rattle.framehop_analysis.proofs.aarch64.instruction_analysis.epilogue.epilogue_instruction_type.Goals as goal

-- no load, no addition and no return is none of the three
none_of : (word : ℕ) → ((pair : Pair) → IsPairWord 1 word pair → ⊥) → ((shift number : ℕ) → shift < 2 → number < 4096 → word ≢ epilogue_word (Add shift number))
    → (instruction : EpilogueInstruction) → EpilogueFits instruction → word ≢ epilogue_word instruction
none_of word no_load no_add (Load bit_30 pair) fits is = no_load pair (record { fits = fits.1; bit_30 = bit_30; bit_30_fits = fits.0; is = is })
none_of word no_load no_add (Add shift number) fits is = no_add shift number fits.0 fits.1 is

pub returns-in-Some-clause-kind : goal.returns-in-Some-clause-kind
returns-in-Some-clause-kind c =
    let spells = c.in-Some.ensures.pair in
    (Load spells.bit_30 c.in-Some.pair, (spells.bit_30_fits, spells.fits), spells.is, (spells.bit_30, refl))

pub returns-in-None-clause-none : goal.returns-in-None-clause-none
returns-in-None-clause-none c = none_of c.args.word c.in_default.ensures.none c.in-None.ensures.none

pub returns-in-Some-added_to_sp-clause-kind : goal.returns-in-Some-added_to_sp-clause-kind
returns-in-Some-added_to_sp-clause-kind c =
    let (shift, number, shift_fits, number_fits, is, bytes_is) = c.in-Some-added_to_sp.ensures.added in
    (Add shift number, (shift_fits, number_fits), is, (shift, number, refl, bytes_is))
