use Rattle.framehop_histories.proofs.Alike.{stay-alike}
use Rattle.framehop_histories.proofs.laws.alike_states_stay_alike.Goals as goal

pub returns : goal.returns
returns g c = λ one other alike act reply. stay-alike g.A.ModuleUnwinding.meanings act reply one other alike
