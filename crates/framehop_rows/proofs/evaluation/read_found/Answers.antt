use Rattle.std.proofs.Common.{ap, sym, ◌∙◌}
use Rattle.framehop_registers.proofs.Laws.{over_weaker}
use Rattle.framehop_rows.specs.Columns.{value_found}
use Rattle.framehop_rows.proofs.evaluation.read_found.Goals as goal

pub returns-in-Word-clause-value : goal.returns-in-Word-clause-value
returns-in-Word-clause-value g c = over_weaker c.read_at.ensures.value (λ words is. is ∙ ap (value_found words) (sym c.in-Word.is))
