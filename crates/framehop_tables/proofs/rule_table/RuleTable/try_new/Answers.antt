use Rattle.framehop_tables.proofs.rule_table.RuleTable.try_new.Goals as goal

pub returns : goal.returns
returns g c = (c.in_ok-by_index.ensures, c.in_ok-index.ensures.1)
