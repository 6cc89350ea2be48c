use Rattle.std.proofs.lemmas.Result.{err_from_is_err_and}
use Rattle.framehop_registers.proofs.Laws.{over_weaker}
use Rattle.framehop_pe.specs.ToUndo.{ToUndo, ByCodes}
use Rattle.framehop_pe.proofs.AttemptAnswers.{caller-answers, caller-refused, rule-answers, undo-as}
use Rattle.framehop_pe.proofs.x86_64.pe.undo_codes.Goals as goal

pub returns-in-Some-clause-undone : goal.returns-in-Some-clause-undone
returns-in-Some-clause-undone g c = λ undo (operations, left, is).
    let to_undo : ToUndo = ByCodes (record { frame = c.args.codes.frame; operations = operations }) in
    undo-as _ _ _ _ _ undo to_undo is
    (rule-answers to_undo _ _ c.rule_of_codes.result c.in-Some.rule (c.rule_of_codes.ensures.rule operations left) c.in-Some.is)

pub returns-in_err-to-clause-undone : goal.returns-in_err-to-clause-undone
returns-in_err-to-clause-undone g c = λ undo (operations, left, is).
    let to_undo : ToUndo = ByCodes (record { frame = c.args.codes.frame; operations = operations }) in
    let from = err_from_is_err_and c.from_residual.result c.from_residual.ensures.1 in
    rw (from.1, from.2) (undo-as _ _ _ _ _ undo to_undo is
    (caller-refused to_undo c.rule_of_codes.result (c.rule_of_codes.ensures.rule operations left) c.in_default.is _ _ _ _ c.in_err-to.field-0.0 (c.in_err-to.ensures.refusal operations left)
    (over_weaker c.in_err-to.ensures.step (λ words says. says operations left))))

pub returns-clause-undone : goal.returns-clause-undone
returns-clause-undone g c = λ undo (operations, left, is).
    let to_undo : ToUndo = ByCodes (record { frame = c.args.codes.frame; operations = operations }) in
    undo-as _ _ _ _ _ undo to_undo is
    (caller-answers to_undo c.rule_of_codes.result (c.rule_of_codes.ensures.rule operations left) c.in_default.is _ _ _ _ c.in_ok-to.to
    (over_weaker c.in_ok-to.ensures.step (λ words says. says operations left)))
