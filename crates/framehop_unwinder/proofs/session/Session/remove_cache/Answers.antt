use Rattle.std.proofs.Common.{ap, sym, ◌∙◌, ◌≡◌, List, Option, None, false, true, map}
use Rattle.std.specs.Prelude.{option_map}
use Rattle.std.proofs.lemmas.List.{map-set}
use Rattle.framehop_rules.specs.Slots.{Kept}
use Rattle.framehop_unwinder.specs.ByNumber.{is_held}
use Rattle.framehop_unwinder.specs.CacheViews.{rules_of}
use Rattle.framehop_unwinder.specs.IdViews.{cache_number}
use Rattle.framehop_unwinder.specs.NumberedViews.{by_number}
use Rattle.framehop_unwinder.specs.State.{SessionState, without_cache}
use Rattle.framehop_unwinder.specs.declared.cache.Cache.{Cache}
use Rattle.framehop_unwinder.proofs.Loads.{holding}
use Rattle.framehop_unwinder.proofs.Sessions.{finds, finds-none, held-mapped, order-without-cache}
use Rattle.framehop_unwinder.proofs.session.Session.remove_cache.Goals as goal

pub invariant_of-self-2 : goal.invariant_of-self-2
invariant_of-self-2 g c =
    let s = c.self.inside in
    order-without-cache g.A.ModuleUnwinding.meanings s.generations s.unwinders s.caches c.self.invariant c.remove.new.self (cache_number c.args.cache) c.remove.result c.remove.ensures.removed c.remove.ensures.same c.remove.ensures.numbered

pub returns-then-not-remove-clause-found : goal.returns-then-not-remove-clause-found
returns-then-not-remove-clause-found g c =
    let D = g.row.A-UnwindData.Denot in
    let R = g.row.A-UnwindRule.Denot in
    let s = c.self.inside in
    let n = cache_number c.args.cache in
    let gone : c.remove.result ≡ false = c.if-not-remove.true in
    finds-none _ _ _ _
    (ap (λ (x : SessionState D R). is_held x.caches n) (sym c.self.view_is) ∙ held-mapped rules_of (by_number s.caches) n ∙ sym c.remove.ensures.held ∙ gone)
    (ap (λ (xs : List (Option (Cache R g.row.A-UnwindContext.Denot g.row.A-UnwindRegs.Denot))). holding (by_number s.unwinders) s.generations (map (option_map rules_of) xs)) (c.remove.ensures.same gone) ∙ c.self.view_is)

pub returns-clause-found : goal.returns-clause-found
returns-clause-found g c =
    let D = g.row.A-UnwindData.Denot in
    let R = g.row.A-UnwindRule.Denot in
    let s = c.self.inside in
    let n = cache_number c.args.cache in
    let there : c.remove.result ≡ true = c.if-not-remove.false in
    finds _ _ _ _ (ap (λ (x : SessionState D R). is_held x.caches n) (sym c.self.view_is) ∙ held-mapped rules_of (by_number s.caches) n ∙ sym c.remove.ensures.held ∙ there)

pub returns-clause-ok : goal.returns-clause-ok
returns-clause-ok g c =
    let D = g.row.A-UnwindData.Denot in
    let R = g.row.A-UnwindRule.Denot in
    let s = c.self.inside in
    let n = cache_number c.args.cache in
    let there : c.remove.result ≡ true = c.if-not-remove.false in
    ap (λ (ks : List (Option (Kept R))). holding (by_number s.unwinders) s.generations ks)
    (ap (map (option_map rules_of)) (c.remove.ensures.removed there) ∙ map-set (option_map rules_of) (by_number s.caches) n None)
    ∙ ap (λ (x : SessionState D R). without_cache x n) c.self.view_is
