use Rattle.framehop_unwinder.specs.IdViews.{unwinder_number}
use Rattle.framehop_unwinder.proofs.Sessions.{order-without}
use Rattle.framehop_unwinder.proofs.session.Session.remove_unwinder.Goals as goal

pub invariant_of-self-2 : goal.invariant_of-self-2
invariant_of-self-2 g c =
    let s = c.self.inside in
    order-without g.A.ModuleUnwinding.meanings s.generations s.unwinders s.caches c.self.invariant c.remove.new.self (unwinder_number c.args.unwinder) c.remove.result c.remove.ensures.removed c.remove.ensures.same c.remove.ensures.numbered
