use Rattle.std.proofs.Common.{◌∙◌, sym, subst, inl, inr}
use Rattle.framehop_analysis.specs.PrologueViews.{EndsWithPush}
use Rattle.framehop_analysis.proofs.PrologueReading.{no_push, plain_push, push_with_rex}
use Rattle.framehop_analysis.proofs.x86_64.instruction_analysis.prologue.before_last_push.Goals as goal

pub returns-then-is_push_byte-clause-push : goal.returns-then-is_push_byte-clause-push
returns-then-is_push_byte-clause-push c =
    let bytes = c.args.bytes.now in
    let before = c.in_ok-last.before.now in
    let last = c.in_ok-last.field-0-0.now in
    let is = c.in_ok-last.ensures.cases.0 in
    let test = sym c.is_push_byte.ensures ∙ c.if-is_push_byte.true in
    elim c.before_rex.ensures [
      | inl (previous, rex, ends) ↦ push_with_rex bytes before c.before_rex.result.now last previous is ends rex test
      | inr (same, whole) ↦ subst (EndsWithPush bytes) (sym same) (plain_push bytes before last is test whole)
    ]

pub returns-else-is_push_byte-clause-none : goal.returns-else-is_push_byte-clause-none
returns-else-is_push_byte-clause-none c =
    no_push c.args.bytes.now c.in_ok-last.before.now c.in_ok-last.field-0-0.now c.in_ok-last.ensures.cases.0 (sym c.is_push_byte.ensures ∙ c.if-is_push_byte.false)
