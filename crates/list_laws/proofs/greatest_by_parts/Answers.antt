use Rattle.list_laws.proofs.Laws.{first_greatest-cons}
use Rattle.list_laws.proofs.greatest_by_parts.Goals as goal

pub returns : goal.returns
returns g c = λ key x xs. first_greatest-cons key x xs
