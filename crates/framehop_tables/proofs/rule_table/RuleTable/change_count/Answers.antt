use Rattle.framehop_tables.specs.Covered.{covered_at}
use Rattle.framehop_tables.proofs.rule_table.RuleTable.change_count.Goals as goal

pub returns : goal.returns
returns g c t base section is = c.change_count.ensures (covered_at (t base section)) is.says
