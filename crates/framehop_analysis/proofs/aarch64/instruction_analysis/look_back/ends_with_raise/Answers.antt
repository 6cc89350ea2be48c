use Rattle.std.proofs.Common.{◌∙◌, sym, subst}
use Rattle.framehop_analysis.specs.LookBackAarch64.{IsRaise}
use Rattle.framehop_analysis.proofs.Words.{last_four}
use Rattle.framehop_analysis.proofs.EndWords.{raise_fits}
use Rattle.framehop_analysis.proofs.aarch64.instruction_analysis.look_back.ends_with_raise.Goals as goal

pub returns-in-Some : goal.returns-in-Some
returns-in-Some c = (
  λ test. (c.in-Some.word, c.in-Some.field-0-0.now, c.is_raise.ensures.0 test, c.in-Some.ensures.bytes),
  λ (word, prefix, raises, is).
      c.is_raise.ensures.1 (subst IsRaise (last_four prefix c.in-Some.field-0-0.now word c.in-Some.word (raise_fits word raises) c.in-Some.ensures.fits (sym is ∙ c.in-Some.ensures.bytes)).1 raises),
)
