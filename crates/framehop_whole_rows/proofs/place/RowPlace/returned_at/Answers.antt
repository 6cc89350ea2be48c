use Rattle.std.proofs.Common.{Ok, ap, sym, ◌∙◌}
use Rattle.framehop_registers.proofs.Laws.{over_both, over_weaker}
use Rattle.framehop_whole_rows.specs.Callers.{returned_by, row_frame}
use Rattle.framehop_whole_rows.specs.Rules.{return_by}
use Rattle.framehop_whole_rows.proofs.place.RowPlace.returned_at.Goals as goal

pub returns-in-Ok-clause-value : goal.returns-in-Ok-clause-value
returns-in-Ok-clause-value g c =
    over_both c.in-Ok.ensures.value c.returned_to.ensures.value (λ words found to.
    let r = row_frame c.args.self.now words in
    ap (λ o. Ok o) to ∙ ap (returned_by r c.args.cfa) found ∙ ap (λ column. returned_by r c.args.cfa (return_by r c.args.cfa column)) (sym c.return_rule.ensures))

pub returns-in-Err-clause-value : goal.returns-in-Err-clause-value
returns-in-Err-clause-value g c =
    over_weaker c.in-Err.ensures.value (λ words found.
    let r = row_frame c.args.self.now words in
    ap (returned_by r c.args.cfa) found ∙ ap (λ column. returned_by r c.args.cfa (return_by r c.args.cfa column)) (sym c.return_rule.ensures))
