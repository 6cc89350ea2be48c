use Rattle.std.proofs.Common.{◌∙◌, sym, ap}
use Rattle.std.specs.Prelude.{◌++◌}
use Rattle.std.specs.Int.{to_le_bytes, w32}
use Rattle.framehop_analysis.specs.EpilogueInstructionsAarch64.{epilogue_word}
use Rattle.framehop_analysis.proofs.EndWords.{word_fits}
use Rattle.framehop_analysis.proofs.EpilogueReadingAarch64.{nothing}
use Rattle.framehop_analysis.proofs.Words.{four}
use Rattle.framehop_analysis.proofs.aarch64.instruction_analysis.epilogue.first_instruction.Goals as goal

pub returns-clause-kind : goal.returns-clause-kind
returns-clause-kind c =
    let (instruction, fits, is, seen) = c.in_ok-kind.ensures.kind in
    (instruction, fits, c.in_ok-word.ensures.bytes ∙ ap (λ w. to_le_bytes w32 w ++ c.in_ok-word.suffix.now) is, seen)

pub returns-in_err-kind-clause-none : goal.returns-in_err-kind-clause-none
returns-in_err-kind-clause-none c =
    nothing c.from_residual-in_err-kind.result _ (λ suffix instruction fits is.
    c.in_err-kind.ensures.none instruction fits
    (four c.in_ok-word.word (epilogue_word instruction) c.in_ok-word.suffix.now suffix c.in_ok-word.ensures.fits (word_fits instruction fits) (sym c.in_ok-word.ensures.bytes ∙ is)).0)
