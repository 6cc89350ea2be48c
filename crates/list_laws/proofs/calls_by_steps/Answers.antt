use Rattle.list_laws.proofs.Laws.{gives-next}
use Rattle.list_laws.proofs.calls_by_steps.Goals as goal

pub returns : goal.returns
returns g c = λ size step shrinks view result s rest. gives-next size step shrinks view result s rest
