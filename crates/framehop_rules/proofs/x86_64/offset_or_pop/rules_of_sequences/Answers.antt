use Rattle.framehop_rules.proofs.SequenceRules.{rule_of-valid, rule_of-meaning, rule_of-one, none_of-more}
use Rattle.framehop_rules.proofs.x86_64.offset_or_pop.rules_of_sequences.Goals as goal

pub returns-clause-valid : goal.returns-clause-valid
returns-clause-valid c = rule_of-valid

pub returns-clause-meaning : goal.returns-clause-meaning
returns-clause-meaning c = λ operations rule is. λ is_first registers words fits. rule_of-meaning operations rule is_first registers words is fits

pub returns-clause-one : goal.returns-clause-one
returns-clause-one c = rule_of-one

pub returns-clause-none : goal.returns-clause-none
returns-clause-none c = none_of-more
