use Rattle.std.proofs.Common.{subst, ◌≡◌, false, true}
use Rattle.framehop_unwinder.specs.ByNumber.{is_held}
use Rattle.framehop_unwinder.specs.State.{without_unwinder}
use Rattle.framehop_histories.specs.CommandViews.{walks_of}
use Rattle.framehop_histories.proofs.Obeyed.{unwinder-gone, unwinder-let-go, was-found}
use Rattle.framehop_histories.proofs.commands.remove_unwinder.Goals as goal

pub returns-in-Ok-clause-obeys : goal.returns-in-Ok-clause-obeys
returns-in-Ok-clause-obeys g c =
    let u = g.A.ModuleUnwinding in
    let s = c.args.session.now in
    let there : is_held s.unwinders c.args.unwinder ≡ true = subst (λ k. is_held s.unwinders k ≡ true) c.numbered.ensures (was-found _ c.remove_unwinder.result _ _ _ c.remove_unwinder.ensures.found c.in-Ok.is) in
    let new = subst (λ k. c.remove_unwinder.new.self ≡ without_unwinder s k) c.numbered.ensures c.in-Ok.ensures.ok in
    λ walks. (unwinder-let-go u.takes_memory u.asks_memory u.meanings s c.remove_unwinder.new.self c.args.unwinder there new) (walks_of walks)

pub returns-in-Err-clause-obeys : goal.returns-in-Err-clause-obeys
returns-in-Err-clause-obeys g c =
    let u = g.A.ModuleUnwinding in
    let s = c.args.session.now in
    let gone : is_held s.unwinders c.args.unwinder ≡ false = subst (λ k. is_held s.unwinders k ≡ false) c.numbered.ensures c.in-Err.ensures.found.only in
    λ walks. (unwinder-gone u.takes_memory u.asks_memory u.meanings s c.remove_unwinder.new.self c.args.unwinder gone c.in-Err.ensures.found.same) (walks_of walks)
