use Rattle.list_laws.proofs.Laws.{last_greatest-sorted}
use Rattle.list_laws.proofs.greatest_in_order.Goals as goal

pub returns : goal.returns
returns g c = λ key xs up. last_greatest-sorted key xs up
