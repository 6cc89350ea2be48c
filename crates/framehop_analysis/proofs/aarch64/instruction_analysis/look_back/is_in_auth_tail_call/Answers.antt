use Rattle.std.proofs.Common.{◌≡◌, ℕ, sym, subst, arith, inl, inr}
use Rattle.std.specs.Prelude.{◌-◌, ◌*◌, drop}
use Rattle.std.proofs.lemmas.Bool.{cases_lt}
use Rattle.framehop_analysis.specs.LookBackAarch64.{IsWordOf}
use Rattle.framehop_analysis.specs.FunctionEndsAarch64.{BeginsWithWordOfAuthTailCall}
use Rattle.framehop_analysis.proofs.OneEpilogueAarch64.{begins_with_call_word}
use Rattle.framehop_analysis.proofs.EndWords.{checked_few}
use Rattle.framehop_analysis.proofs.aarch64.instruction_analysis.look_back.is_in_auth_tail_call.Goals as goal

pub returns-then-not-can_be_in_auth_tail_call : goal.returns-then-not-can_be_in_auth_tail_call
returns-then-not-can_be_in_auth_tail_call c = (
  λ test. cc,
  λ there.
      let can = c.can_be_in_auth_tail_call.ensures (subst BeginsWithWordOfAuthTailCall (sym c.split_at.ensures.back) (begins_with_call_word c.args.bytes.now c.args.pc_offset there)) in
      let none = c.if-not-can_be_in_auth_tail_call.true in
      cc,
)

pub loop-before-preserved : goal.loop-before-preserved
loop-before-preserved c = (
  omega (arith, c.loop-before-test.true),
  λ earlier below is. elim (cases_lt earlier c.loop-before.before) [
    | inl less ↦ c.loop-before.invariant.1 earlier less is
    | inr more ↦
        let same : earlier ≡ c.loop-before.before = omega (arith, below, more) in
        let found = c.is_word_of_auth_tail_call.ensures.1 (subst (λ (n : ℕ). IsWordOf c.args.bytes.now c.args.pc_offset n) same is) in
        let none = c.if-is_word_of_auth_tail_call.false in
        cc
  ],
)

pub returns : goal.returns
returns c = (
  λ test. cc,
  λ (before, is). absurd (c.loop-before.invariant.1 before
      (omega (arith, c.loop-before-test.false, is.within, checked_few (drop (c.args.pc_offset - 4 * before) c.args.bytes.now) is.words is.begins)) is),
)
