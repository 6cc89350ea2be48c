use Rattle.std.proofs.Common.{ap, arith, ◌≡◌, ◌∙◌, ◌+◌, ◌++◌, ◌∷◌, [], Some}
use Rattle.framehop_unwinder.specs.Modules.{Loaded, Loads}
use Rattle.framehop_unwinder.specs.NumberedViews.{by_number}
use Rattle.framehop_unwinder.specs.SessionViews.{caches_by_number}
use Rattle.framehop_unwinder.specs.State.{sets_of_all}
use Rattle.framehop_unwinder.proofs.Sessions.{order-of-unwinders}
use Rattle.framehop_unwinder.proofs.Sound.{sound_next, sound_push, joins_new}
use Rattle.framehop_unwinder.proofs.session.Session.add_unwinder.Goals as goal

pub invariant_of-self : goal.invariant_of-self
invariant_of-self g c =
    let m = g.A.ModuleUnwinding.meanings in
    let s = c.self.inside in
    let next = s.generations in
    let loads = by_number s.unwinders in
    let sets = sets_of_all (caches_by_number s.caches) in
    let new = c.with_generation-unwinder.result in
    let number : new.generation ≡ next = ap (λ (u : Loads (Loaded g.row.A-UnwindData.Denot)). u.generation) c.with_generation-unwinder.ensures ∙ omega (arith, c.left-left.ensures) in
    rw c.take.ensures.more
    (order-of-unwinders m next s.unwinders s.caches c.self.invariant (next + 1) c.add.new.self (loads ++ Some new ∷ []) c.add.ensures.numbered c.in-Ok.ensures.added
    (sound_push m (next + 1) loads sets new (joins_new m next loads sets new number c.self.invariant.sound) (sound_next m next loads sets c.self.invariant.sound)))
