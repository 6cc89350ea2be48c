use Rattle.std.proofs.Common.{refl}
use Rattle.framehop_rules.proofs.Parts.{above, above-answers, address-answers, word-answers}
use Rattle.framehop_rules.proofs.outcome_laws.addresses_and_words_that_answer.Goals as goal

pub returns-clause-number : goal.returns-clause-number
returns-clause-number c = address-answers

pub returns-clause-sum : goal.returns-clause-sum
returns-clause-sum c = above-answers

pub returns-clause-above : goal.returns-clause-above
returns-clause-above c = λ base bytes a is. above base bytes a a refl is

pub returns-clause-word : goal.returns-clause-word
returns-clause-word c = word-answers
