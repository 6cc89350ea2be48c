use Rattle.framehop_registers.proofs.Laws.{leads_one, leads_both}
use Rattle.framehop_registers.proofs.callback.reads_in_order.Goals as goal
use Rattle.framehop_registers.proofs.callback.reads_in_order.Given as given

pub returns-clause-one : goal.returns-clause-one
returns-clause-one g c = λ old new at r fits call. leads_one (given.F-step g) old new at r fits call

pub returns-clause-both : goal.returns-clause-both
returns-clause-both g c = λ old mid new reads more first second. leads_both (given.F-step g) reads more old mid new first second
