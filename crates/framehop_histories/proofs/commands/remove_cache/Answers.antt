use Rattle.std.proofs.Common.{subst, ◌≡◌, false, true}
use Rattle.framehop_unwinder.specs.ByNumber.{is_held}
use Rattle.framehop_unwinder.specs.State.{without_cache}
use Rattle.framehop_histories.specs.CommandViews.{walks_of}
use Rattle.framehop_histories.proofs.Obeyed.{cache-gone, cache-let-go, was-found}
use Rattle.framehop_histories.proofs.commands.remove_cache.Goals as goal

pub returns-in-Ok-clause-obeys : goal.returns-in-Ok-clause-obeys
returns-in-Ok-clause-obeys g c =
    let u = g.A.ModuleUnwinding in
    let s = c.args.session.now in
    let there : is_held s.caches c.args.cache ≡ true = subst (λ k. is_held s.caches k ≡ true) c.numbered.ensures (was-found _ c.remove_cache.result _ _ _ c.remove_cache.ensures.found c.in-Ok.is) in
    let new = subst (λ k. c.remove_cache.new.self ≡ without_cache s k) c.numbered.ensures c.in-Ok.ensures.ok in
    λ walks. (cache-let-go u.takes_memory u.asks_memory u.meanings s c.remove_cache.new.self c.args.cache there new) (walks_of walks)

pub returns-in-Err-clause-obeys : goal.returns-in-Err-clause-obeys
returns-in-Err-clause-obeys g c =
    let u = g.A.ModuleUnwinding in
    let s = c.args.session.now in
    let gone : is_held s.caches c.args.cache ≡ false = subst (λ k. is_held s.caches k ≡ false) c.numbered.ensures c.in-Err.ensures.found.only in
    λ walks. (cache-gone u.takes_memory u.asks_memory u.meanings s c.remove_cache.new.self c.args.cache gone c.in-Err.ensures.found.same) (walks_of walks)
