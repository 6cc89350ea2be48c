use Rattle.framehop_rules.proofs.Parts.{and_then-answers, past-end, past-refusal}
use Rattle.framehop_rules.proofs.outcome_laws.parts_that_answer.Goals as goal

pub returns-clause-both : goal.returns-clause-both
returns-clause-both g c = λ first next b is. and_then-answers first next b is

pub returns-clause-refused : goal.returns-clause-refused
returns-clause-refused g c = λ error stops other value is. past-refusal stops error other value is

pub returns-clause-ended : goal.returns-clause-ended
returns-clause-ended g c = λ stops other value is. past-end stops other value is
