use Rattle.framehop_pe.proofs.PartRules.{rule-computed}
use Rattle.framehop_pe.proofs.laws.rules_of_parts.Goals as goal

pub returns : goal.returns
returns c operations = rule-computed operations
