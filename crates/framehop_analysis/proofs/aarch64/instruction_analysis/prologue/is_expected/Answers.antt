use Rattle.std.proofs.Common.{◌∙◌, sym, subst, ℕ}
use Rattle.framehop_analysis.specs.PrologueAarch64.{IsExpectedWord}
use Rattle.framehop_analysis.proofs.Words.{four}
use Rattle.framehop_analysis.proofs.PrologueReadingAarch64.{expected_fits}
use Rattle.framehop_analysis.proofs.aarch64.instruction_analysis.prologue.is_expected.Goals as goal

pub returns-in-Some : goal.returns-in-Some
returns-in-Some c = (
  λ test. (c.in-Some.word, c.in-Some.field-0-1.now, c.is_expected_word.ensures.0 test, c.in-Some.ensures.bytes),
  λ (word, suffix, expected, is).
      c.is_expected_word.ensures.1 (subst (λ (w : ℕ). IsExpectedWord w c.args.restored.raise)
      (four word c.in-Some.word suffix c.in-Some.field-0-1.now (expected_fits word c.args.restored.raise expected) c.in-Some.ensures.fits (sym is ∙ c.in-Some.ensures.bytes)).0 expected),
)
