use Rattle.list_laws.proofs.Laws.{items-first, rest-first}
use Rattle.list_laws.proofs.items_by_steps.Goals as goal

pub returns-clause-items : goal.returns-clause-items
returns-clause-items g c = λ size step shrinks s. items-first size step shrinks s

pub returns-clause-rest : goal.returns-clause-rest
returns-clause-rest g c = λ size step shrinks s. rest-first size step shrinks s
