use Rattle.framehop_rules.proofs.StackPointer.{caller-above, caller-fits, caller-all, caller-at_return, caller-higher}
use Rattle.framehop_rules.proofs.x86_64.laws.rules_raise_sp.Goals as goal

pub returns-clause-not_lower : goal.returns-clause-not_lower
returns-clause-not_lower c = caller-above

pub returns-clause-fits : goal.returns-clause-fits
returns-clause-fits c = caller-fits

pub returns-clause-all_there : goal.returns-clause-all_there
returns-clause-all_there c = caller-all

pub returns-clause-at_return : goal.returns-clause-at_return
returns-clause-at_return c = caller-at_return

pub returns-clause-higher : goal.returns-clause-higher
returns-clause-higher c = λ rule is_first registers words caller all behind is. caller-higher rule is_first registers words caller all is behind
