use Rattle.std.proofs.Common.{subst, ◌≡◌, false, true}
use Rattle.framehop_unwinder.specs.ByNumber.{is_held}
use Rattle.framehop_unwinder.specs.State.{with_clone}
use Rattle.framehop_histories.specs.CommandViews.{walks_of}
use Rattle.framehop_histories.proofs.Obeyed.{if-done, if-failed, clone-unknown, clone-made, clone-refused, was-found}
use Rattle.framehop_histories.proofs.commands.clone_unwinder.Goals as goal

pub returns-in_default-clause-obeys : goal.returns-in_default-clause-obeys
returns-in_default-clause-obeys g c =
    let u = g.A.ModuleUnwinding in
    let s = c.args.session.now in
    let gone : is_held s.unwinders c.args.unwinder ≡ false = subst (λ k. is_held s.unwinders k ≡ false) c.numbered.ensures c.in_default.ensures.found.only in
    λ walks. (clone-unknown u.takes_memory u.asks_memory u.meanings s c.clone_unwinder.new.self c.args.unwinder gone c.in_default.ensures.found.same) (walks_of walks)

pub returns-in-Ok-made-clause-obeys : goal.returns-in-Ok-made-clause-obeys
returns-in-Ok-made-clause-obeys g c =
    let u = g.A.ModuleUnwinding in
    let s = c.args.session.now in
    let there : is_held s.unwinders c.args.unwinder ≡ true = subst (λ k. is_held s.unwinders k ≡ true) c.numbered.ensures (was-found _ c.clone_unwinder.result _ _ c.in-Ok.made c.clone_unwinder.ensures.found c.in-Ok.is) in
    let new = subst (λ k. c.clone_unwinder.new.self ≡ with_clone s k) c.numbered.ensures (if-done c.in-Ok.made _ _ c.in-Ok-made.is c.in-Ok.ensures.ok) in
    λ walks. (clone-made u.takes_memory u.asks_memory u.meanings s c.clone_unwinder.new.self c.args.unwinder there new) (walks_of walks)

pub returns-in-Err-clause-obeys : goal.returns-in-Err-clause-obeys
returns-in-Err-clause-obeys g c =
    let u = g.A.ModuleUnwinding in
    let s = c.args.session.now in
    let there : is_held s.unwinders c.args.unwinder ≡ true = subst (λ k. is_held s.unwinders k ≡ true) c.numbered.ensures (was-found _ c.clone_unwinder.result _ _ c.in-Ok.made c.clone_unwinder.ensures.found c.in-Ok.is) in
    λ walks. (clone-refused u.takes_memory u.asks_memory u.meanings s c.clone_unwinder.new.self c.args.unwinder there (if-failed c.in-Ok.made _ _ c.in-Err.is c.in-Ok.ensures.refused)) (walks_of walks)
