use Rattle.framehop_whole_rows.proofs.AgreeingCallers.{law}
use Rattle.framehop_whole_rows.proofs.laws.rules_answer_as_whole_rows.Goals as goal

pub returns : goal.returns
returns c = law c.rule_answers_as_its_row.ensures
