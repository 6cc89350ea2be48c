use Rattle.std.proofs.Common.{◌≡◌, ◌∙◌, subst, sym}
use Rattle.framehop_unwinder.specs.Modules.{with_loaded}
use Rattle.framehop_unwinder.specs.State.{modules_at, with_modules}
use Rattle.backtrace_walks.specs.SessionViews.{HasModules}
use Rattle.backtrace_walks.proofs.SessionLaws.{if_not_failed, loaded}
use Rattle.backtrace_walks.proofs.session.load_found.Goals as goal

pub returns : goal.returns
returns g c =
    let old = c.args.session.now in
    let new = c.load.new.self in
    let made = if_not_failed c.in-Ok.loaded _ (sym c.is_err.ensures.value ∙ c.if-is_err.false) c.in-Ok.ensures.ok in
    let is = subst (λ k. new ≡ with_modules old k (with_loaded c.in-Some.module (modules_at old k))) c.numbered.ensures made in
    rw c.in-Some.is (subst (HasModules (with_loaded c.in-Some.module (modules_at old 0))) (sym is) (loaded old (with_loaded c.in-Some.module (modules_at old 0)) c.requires))
