use Rattle.std.proofs.Common.{ap, ◌∙◌, ◌≡◌, ◌++◌, ◌∷◌, [], Some, sym}
use Rattle.std.specs.Prelude.{option_copied}
use Rattle.framehop_unwinder.specs.ByNumber.{held}
use Rattle.framehop_unwinder.specs.IdViews.{unwinder_number}
use Rattle.framehop_unwinder.specs.NumberedViews.{by_number}
use Rattle.framehop_unwinder.specs.SessionViews.{caches_by_number}
use Rattle.framehop_unwinder.specs.State.{sets_of_all}
use Rattle.framehop_unwinder.proofs.Sessions.{order-of-unwinders}
use Rattle.framehop_unwinder.proofs.Sound.{sound_push, joins_clone}
use Rattle.framehop_unwinder.proofs.session.Session.clone_unwinder.Goals as goal

pub invariant_of-self-2 : goal.invariant_of-self-2
invariant_of-self-2 g c =
    let m = g.A.ModuleUnwinding.meanings in
    let s = c.self.inside in
    let next = s.generations in
    let loads = by_number s.unwinders in
    let sets = sets_of_all (caches_by_number s.caches) in
    let new = c.in-Ok.clone in
    let there : held loads (unwinder_number c.args.unwinder) ≡ Some new = sym c.get.ensures ∙ ap option_copied c.in-Some.is ∙ ap Some (sym c.in-Ok.ensures) in
    order-of-unwinders m next s.unwinders s.caches c.self.invariant next c.add.new.self (loads ++ Some new ∷ []) c.add.ensures.numbered c.in-Ok-add.ensures.added
    (sound_push m next loads sets new (joins_clone m next loads sets (unwinder_number c.args.unwinder) new there c.self.invariant.sound) c.self.invariant.sound)
