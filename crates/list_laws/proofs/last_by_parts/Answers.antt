use Rattle.std.proofs.Common.{arith}
use Rattle.list_laws.proofs.Laws.{last_of-at, last_of-none, last_of-push}
use Rattle.list_laws.proofs.last_by_parts.Goals as goal

pub returns-clause-push : goal.returns-clause-push
returns-clause-push g c = λ xs y. last_of-push xs y

pub returns-clause-none : goal.returns-clause-none
returns-clause-none g c = λ xs h. last_of-none xs h

pub returns-clause-at : goal.returns-clause-at
returns-clause-at g c = λ xs i d len. last_of-at xs i d (omega arith)
