use Rattle.framehop_rows.proofs.RowsOfRules.{law}
use Rattle.framehop_rows.proofs.x86_64.dwarf.rule_answers_as_its_row.Goals as goal

pub returns : goal.returns
returns c = law
