use Rattle.framehop_tables.proofs.AttemptLaws.{attempts-by-index}
use Rattle.framehop_tables.proofs.table_laws.tables_attempt_as_indexes.Goals as goal

pub returns : goal.returns
returns g c = attempts-by-index g.A.DwarfUnwinding.rows g.A.RowRules.rule_of g.met.A.RowRules.says
