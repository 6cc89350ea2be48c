use Rattle.framehop_histories.specs.CommandViews.{walks_of}
use Rattle.framehop_histories.proofs.Obeyed.{unwinder-made, unwinder-exhausted, unwinder-refused}
use Rattle.framehop_histories.proofs.commands.new_unwinder.Goals as goal

pub returns-in-Ok-clause-obeys : goal.returns-in-Ok-clause-obeys
returns-in-Ok-clause-obeys g c =
    let u = g.A.ModuleUnwinding in
    λ walks. (unwinder-made u.takes_memory u.asks_memory u.meanings c.args.session.now c.add_unwinder.new.self
    (λ last. absurd (let no = c.add_unwinder.ensures.exhausted last in cc)) c.in-Ok.ensures.ok) (walks_of walks)

pub returns-in-Err-GenerationsExhausted-clause-obeys : goal.returns-in-Err-GenerationsExhausted-clause-obeys
returns-in-Err-GenerationsExhausted-clause-obeys g c =
    let u = g.A.ModuleUnwinding in
    λ walks. (unwinder-exhausted u.takes_memory u.asks_memory u.meanings c.args.session.now c.add_unwinder.new.self
    (c.add_unwinder.ensures.only (cc)) c.in-Err-GenerationsExhausted.ensures.refused) (walks_of walks)

pub returns-in-Err-OutOfMemory-clause-obeys : goal.returns-in-Err-OutOfMemory-clause-obeys
returns-in-Err-OutOfMemory-clause-obeys g c =
    let u = g.A.ModuleUnwinding in
    λ walks. (unwinder-refused u.takes_memory u.asks_memory u.meanings c.args.session.now c.add_unwinder.new.self
    (λ last. absurd (let no = c.add_unwinder.ensures.exhausted last in cc)) c.in-Err-OutOfMemory.ensures.refused) (walks_of walks)
