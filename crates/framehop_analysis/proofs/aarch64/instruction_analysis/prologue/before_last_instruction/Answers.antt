use Rattle.std.proofs.Common.{◌∙◌, sym}
use Rattle.framehop_analysis.specs.PrologueInstructionsAarch64.{prologue_word}
use Rattle.framehop_analysis.proofs.EpilogueReadingAarch64.{nothing}
use Rattle.framehop_analysis.proofs.Words.{last_four}
use Rattle.framehop_analysis.proofs.PrologueReadingAarch64.{prologue_fits}
use Rattle.framehop_analysis.proofs.aarch64.instruction_analysis.prologue.before_last_instruction.Goals as goal

pub returns-in_err-lowering-clause-none : goal.returns-in_err-lowering-clause-none
returns-in_err-lowering-clause-none c =
    nothing c.from_residual-in_err-lowering.result _ (λ prefix instruction fits is.
    c.in_err-lowering.ensures.none instruction fits
    (last_four c.in_ok-prefix.prefix.now prefix c.in_ok-prefix.word (prologue_word instruction) c.in_ok-prefix.ensures.fits (prologue_fits instruction fits) (sym c.in_ok-prefix.ensures.bytes ∙ is)).1)
