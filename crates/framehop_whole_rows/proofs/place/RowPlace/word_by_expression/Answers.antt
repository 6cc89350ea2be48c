use Rattle.std.proofs.Common.{ap, ◌∙◌}
use Rattle.framehop_registers.proofs.Laws.{over_both}
use Rattle.framehop_expressions.specs.Evaluation.{word_value}
use Rattle.framehop_whole_rows.specs.Rules.{known_then}
use Rattle.framehop_whole_rows.proofs.place.RowPlace.word_by_expression.Goals as goal

pub returns-in-Ok-clause-value : goal.returns-in-Ok-clause-value
returns-in-Ok-clause-value g c =
    over_both c.in-Ok.ensures.value c.word_value.ensures.value (λ words found read. read ∙ ap (λ at. known_then at (word_value words)) found)
