use Rattle.std.proofs.Common.{subst, ◌≡◌, ◌≤◌, ◌-◌, ◌^◌, false, true}
use Rattle.std.specs.Prelude.{IsErr}
use Rattle.framehop_unwinder.specs.ByNumber.{is_held}
use Rattle.framehop_unwinder.specs.Modules.{is_loaded_at}
use Rattle.framehop_unwinder.specs.State.{modules_at, with_unloaded}
use Rattle.framehop_histories.specs.CommandViews.{walks_of}
use Rattle.framehop_histories.proofs.Obeyed.{if-done, if-failed, unload-unknown, unload-made, unload-exhausted, not-both, not-true, was-found}
use Rattle.framehop_histories.proofs.commands.unload.Goals as goal

pub returns-in_default-clause-obeys : goal.returns-in_default-clause-obeys
returns-in_default-clause-obeys g c =
    let u = g.A.ModuleUnwinding in
    let s = c.args.session.now in
    let gone : is_held s.unwinders c.args.unwinder ≡ false = subst (λ k. is_held s.unwinders k ≡ false) c.numbered.ensures c.in_default.ensures.found.only in
    λ walks. (unload-unknown u.takes_memory u.asks_memory u.meanings s c.unload.new.self c.args.unwinder c.args.start gone c.in_default.ensures.found.same) (walks_of walks)

pub returns-in-Ok-unloaded-clause-obeys : goal.returns-in-Ok-unloaded-clause-obeys
returns-in-Ok-unloaded-clause-obeys g c =
    let u = g.A.ModuleUnwinding in
    let s = c.args.session.now in
    let there : is_held s.unwinders c.args.unwinder ≡ true = subst (λ k. is_held s.unwinders k ≡ true) c.numbered.ensures (was-found _ c.unload.result _ _ c.in-Ok.unloaded c.unload.ensures.found c.in-Ok.is) in
    let e = c.in-Ok.ensures in
    let is = c.in-Ok-unloaded.is in
    λ walks. (unload-made u.takes_memory u.asks_memory u.meanings s c.unload.new.self c.args.unwinder c.args.start there
    (subst (λ k. is_loaded_at c.args.start (modules_at s k) ≡ false → c.unload.new.self ≡ s) c.numbered.ensures (λ none. (e.unknown none).1))
    (subst (λ k. is_loaded_at c.args.start (modules_at s k) ≡ true → 2 ^ 64 - 1 ≤ s.next → ⊥) c.numbered.ensures (λ has last. not-true (subst (λ r. IsErr r) is (e.exhausted has last))))
    (subst (λ k. is_loaded_at c.args.start (modules_at s k) ≡ true → c.unload.new.self ≡ with_unloaded s k c.args.start) c.numbered.ensures (λ has. if-done c.in-Ok.unloaded _ _ is (e.ok has)))) (walks_of walks)

pub returns-in-Err-clause-obeys : goal.returns-in-Err-clause-obeys
returns-in-Err-clause-obeys g c =
    let u = g.A.ModuleUnwinding in
    let s = c.args.session.now in
    let there : is_held s.unwinders c.args.unwinder ≡ true = subst (λ k. is_held s.unwinders k ≡ true) c.numbered.ensures (was-found _ c.unload.result _ _ c.in-Ok.unloaded c.unload.ensures.found c.in-Ok.is) in
    let e = c.in-Ok.ensures in
    let is = c.in-Err.is in
    λ walks. (unload-exhausted u.takes_memory u.asks_memory u.meanings s c.unload.new.self c.args.unwinder c.args.start there
    (subst (λ k. is_loaded_at c.args.start (modules_at s k) ≡ false → ⊥) c.numbered.ensures (λ none. not-both c.in-Ok.unloaded tt _ (e.unknown none).0 is))
    (if-failed c.in-Ok.unloaded _ _ is e.only) (if-failed c.in-Ok.unloaded _ _ is e.refused)) (walks_of walks)
