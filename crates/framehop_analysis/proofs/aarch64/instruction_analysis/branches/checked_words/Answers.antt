use Rattle.framehop_analysis.proofs.EpilogueReadingAarch64.{nothing}
use Rattle.framehop_analysis.proofs.EndWords.{no_checked, stripped}
use Rattle.framehop_analysis.proofs.aarch64.instruction_analysis.branches.checked_words.Goals as goal

pub returns-in_err-words-clause-none : goal.returns-in_err-words-clause-none
returns-in_err-words-clause-none c =
    nothing c.from_residual-in_err-words.result _ (no_checked c.args.bytes.now c.in_ok-suffix.suffix.now (stripped c.args.bytes.now c.in_ok-suffix.suffix c.in_ok-suffix.ensures.cases) c.in_err-words.ensures.none)
