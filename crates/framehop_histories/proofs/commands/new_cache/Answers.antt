use Rattle.framehop_histories.specs.CommandViews.{walks_of}
use Rattle.framehop_histories.proofs.Obeyed.{cache-made, cache-refused}
use Rattle.framehop_histories.proofs.commands.new_cache.Goals as goal

pub returns-in-Ok-clause-obeys : goal.returns-in-Ok-clause-obeys
returns-in-Ok-clause-obeys g c =
    let u = g.A.ModuleUnwinding in
    λ walks. (cache-made u.takes_memory u.asks_memory u.meanings c.args.slots c.args.session.now c.add_cache_with_context.new.self c.in-Ok.ensures.ok c.in-Ok.ensures.histories) (walks_of walks)

pub returns-in-Err-clause-obeys : goal.returns-in-Err-clause-obeys
returns-in-Err-clause-obeys g c =
    let u = g.A.ModuleUnwinding in
    λ walks. (cache-refused u.takes_memory u.asks_memory u.meanings c.args.slots c.args.session.now c.add_cache_with_context.new.self c.in-Err.ensures.refused) (walks_of walks)
