use Rattle.std.proofs.Common.{◌≡◌, ◌∙◌, ap, arith, to_z, of_z}
use Rattle.std.specs.Prelude.{pos}
use Rattle.std.specs.Int.{w64}
use Rattle.std.proofs.lemmas.Int.{ints}
use Rattle.framehop_analysis.specs.PrologueInstructionsAarch64.{Store, Sub}
use Rattle.framehop_analysis.proofs.PrologueReadingAarch64.{spells_none}
use Rattle.framehop_analysis.proofs.aarch64.instruction_analysis.prologue.lowering_of_word.Goals as goal

pub returns-in-Some-clause-lowering : goal.returns-in-Some-clause-lowering
returns-in-Some-clause-lowering c =
    let spells = c.in-Some.ensures.pair in
    let moved = c.offset_and_raise-raise.ensures in
    (Store spells.bit_30 c.in-Some.pair, (spells.bit_30_fits, spells.fits), spells.is, omega (arith, ints, moved.raise, moved.low, moved.high))

pub returns-in-Some-subtracted_from_sp-clause-lowering : goal.returns-in-Some-subtracted_from_sp-clause-lowering
returns-in-Some-subtracted_from_sp-clause-lowering c =
    let (shift, number, shift_fits, number_fits, is, bytes_is) = c.in-Some-subtracted_from_sp.ensures.subtracted in
    let same : to_z w64 (of_z w64 c.from.result) ≡ pos c.in-Some-subtracted_from_sp.bytes = omega (arith, ints, c.from.ensures) in
    (Sub shift number, (shift_fits, number_fits), is, same ∙ ap pos bytes_is)

pub returns-in-None-clause-none : goal.returns-in-None-clause-none
returns-in-None-clause-none c = spells_none c.args.word c.in_default.ensures.none c.in-None.ensures.none c.if-word-eq-SIGN_RETURN_ADDRESS.false
