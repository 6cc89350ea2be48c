use Rattle.framehop_rows.proofs.RowsOfRulesAarch64.{law}
use Rattle.framehop_rows.proofs.aarch64.dwarf.rule_answers_as_its_row.Goals as goal

pub returns : goal.returns
returns c = law
