use Rattle.framehop_rules.proofs.StackPointer.{stays-refused}
use Rattle.framehop_rules.proofs.x86_64.laws.rules_that_stay_are_refused.Goals as goal

pub returns : goal.returns
returns c = λ rule is_first registers words behind stays. stays-refused rule is_first registers words stays.0 behind stays.1
