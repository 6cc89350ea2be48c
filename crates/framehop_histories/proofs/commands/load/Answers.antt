use Rattle.std.proofs.Common.{subst, ◌≡◌, false, true}
use Rattle.std.specs.Prelude.{OnOk}
use Rattle.framehop_unwinder.specs.ByNumber.{is_held}
use Rattle.framehop_unwinder.specs.Modules.{with_loaded}
use Rattle.framehop_unwinder.specs.State.{modules_at, with_modules}
use Rattle.framehop_histories.specs.CommandViews.{walks_of}
use Rattle.framehop_histories.proofs.Obeyed.{load-answered, load-stays, load-unknown, was-found}
use Rattle.framehop_histories.proofs.commands.load.Goals as goal

pub returns-in_default-clause-obeys : goal.returns-in_default-clause-obeys
returns-in_default-clause-obeys g c =
    let u = g.A.ModuleUnwinding in
    let s = c.args.session.now in
    let gone : is_held s.unwinders c.args.unwinder ≡ false = subst (λ k. is_held s.unwinders k ≡ false) c.numbered.ensures c.in_default.ensures.found.only in
    λ walks. (load-unknown u.takes_memory u.asks_memory u.meanings s c.load.new.self c.args.unwinder c.args.module gone c.in_default.ensures.found.same) (walks_of walks)

pub returns-clause-obeys : goal.returns-clause-obeys
returns-clause-obeys g c =
    let u = g.A.ModuleUnwinding in
    let s = c.args.session.now in
    let there : is_held s.unwinders c.args.unwinder ≡ true = subst (λ k. is_held s.unwinders k ≡ true) c.numbered.ensures (was-found _ c.load.result _ _ c.in-Ok.loaded c.load.ensures.found c.in-Ok.is) in
    let e = c.in-Ok.ensures in
    let o = c.of_load.ensures in
    let made = subst (λ k. OnOk c.in-Ok.loaded (c.load.new.self ≡ with_modules s k (with_loaded c.args.module (modules_at s k)))) c.numbered.ensures e.ok in
    λ walks. (load-answered u.takes_memory u.asks_memory u.meanings s c.load.new.self c.args.unwinder c.args.module c.in-Ok.loaded c.of_load.result there made e.exhausted e.only e.refused o.added o.exhausted o.wanted) (walks_of walks)

pub returns-clause-stays : goal.returns-clause-stays
returns-clause-stays g c =
    let o = c.of_load.ensures in
    load-stays c.in-Ok.loaded c.of_load.result c.args.session.now c.load.new.self o.added o.exhausted o.wanted c.in-Ok.ensures.refused
