use Rattle.std.proofs.Common.{ap, sym, ◌∙◌}
use Rattle.framehop_registers.proofs.Laws.{over_weaker}
use Rattle.framehop_whole_rows.specs.Callers.{row_frame}
use Rattle.framehop_whole_rows.specs.Rules.{given_by}
use Rattle.framehop_whole_rows.proofs.place.RowPlace.given.Goals as goal

pub returns-clause-value : goal.returns-clause-value
returns-clause-value g c =
    over_weaker c.given_by.ensures.value (λ words is.
    is ∙ ap (given_by (row_frame c.args.self.now words) c.args.cfa c.args.register.0) (sym c.rule_of.ensures))
