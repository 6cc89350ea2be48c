use Rattle.std.proofs.Common.{arith, ◌∙◌}
use Rattle.framehop_tables.proofs.rule_table.RuleTable.look_up.Goals as goal

pub returns-clause-index : goal.returns-clause-index
returns-clause-index g c t base section is = c.covered.ensures.covered ∙ c.look_up-found.ensures.value ∙ is.says c.args.relative (omega arith)
