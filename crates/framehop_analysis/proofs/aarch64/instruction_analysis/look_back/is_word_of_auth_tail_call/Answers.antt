use Rattle.std.proofs.Common.{sym, subst, List, ℕ}
use Rattle.framehop_analysis.specs.FunctionEndsAarch64.{BeginsWithAuthTailCall}
use Rattle.framehop_analysis.proofs.aarch64.instruction_analysis.look_back.is_word_of_auth_tail_call.Goals as goal

pub returns-in-None : goal.returns-in-None
returns-in-None c = (
  λ test. cc,
  λ is. absurd (c.in-None.ensures.none is.words (subst (λ (bs : List ℕ). BeginsWithAuthTailCall bs is.words) (sym c.split_at.ensures.back) is.begins)),
)
