use Rattle.std.proofs.Common.{ap, sym, ◌∙◌}
use Rattle.framehop_registers.proofs.Laws.{over_both}
use Rattle.framehop_whole_rows.specs.Callers.{returned_at, row_frame}
use Rattle.framehop_whole_rows.specs.Rules.{cfa_value}
use Rattle.framehop_whole_rows.proofs.place.RowPlace.returned.Goals as goal

pub returns-in-Ok-clause-value : goal.returns-in-Ok-clause-value
returns-in-Ok-clause-value g c =
    over_both c.in-Ok.ensures.value c.returned_at.ensures.value (λ words found at.
    let r = row_frame c.args.self.now words in
    at ∙ ap (returned_at r) (found ∙ ap (cfa_value r) (sym c.cfa_rule.ensures)))
