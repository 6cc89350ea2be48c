use Rattle.std.proofs.Common.{refl}
use Rattle.framehop_analysis.specs.PrologueInstructionsAarch64.{Store, Sub}
use Rattle.framehop_analysis.proofs.PrologueReadingAarch64.{spells_none}
use Rattle.framehop_analysis.proofs.aarch64.instruction_analysis.prologue.prologue_instruction_type.Goals as goal

pub returns-in-Some-clause-kind : goal.returns-in-Some-clause-kind
returns-in-Some-clause-kind c =
    let spells = c.in-Some.ensures.pair in
    (Store spells.bit_30 c.in-Some.pair, (spells.bit_30_fits, spells.fits), spells.is, (spells.bit_30, refl))

pub returns-in-Some-subtracted_from_sp-clause-kind : goal.returns-in-Some-subtracted_from_sp-clause-kind
returns-in-Some-subtracted_from_sp-clause-kind c =
    let (shift, number, shift_fits, number_fits, is, bytes_is) = c.in-Some-subtracted_from_sp.ensures.subtracted in
    (Sub shift number, (shift_fits, number_fits), is, (shift, number, refl, bytes_is))

pub returns-in-None-clause-none : goal.returns-in-None-clause-none
returns-in-None-clause-none c = spells_none c.args.word c.in_default.ensures.none c.in-None.ensures.none c.if-word-eq-SIGN_RETURN_ADDRESS.false
