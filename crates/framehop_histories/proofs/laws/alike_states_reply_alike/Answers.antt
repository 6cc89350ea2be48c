use Rattle.framehop_histories.proofs.Alike.{reply-alike}
use Rattle.framehop_histories.proofs.laws.alike_states_reply_alike.Goals as goal

pub returns : goal.returns
returns g c = λ one other alike act. reply-alike g.A.ModuleUnwinding.meanings act one other alike
