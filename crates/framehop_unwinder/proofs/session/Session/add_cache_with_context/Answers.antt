use Rattle.std.proofs.Common.{ap, map, ◌≡◌, ◌∙◌, ◌++◌, ◌∷◌, [], List, Option, Some, subst, sym}
use Rattle.std.specs.Prelude.{option_map}
use Rattle.std.proofs.lemmas.List.{map_push}
use Rattle.framehop_rules.specs.Slots.{Kept, layout_of, new_kept}
use Rattle.framehop_unwinder.specs.CacheViews.{rules_of}
use Rattle.framehop_unwinder.specs.History.{HaveHistories, no_history}
use Rattle.framehop_unwinder.specs.NumberedViews.{by_number}
use Rattle.framehop_unwinder.specs.SessionViews.{caches_by_number}
use Rattle.framehop_unwinder.specs.State.{SessionState, sets_of_all}
use Rattle.framehop_unwinder.proofs.Histories.{push-have, new-has}
use Rattle.framehop_unwinder.proofs.Sessions.{order-of-caches}
use Rattle.framehop_unwinder.proofs.Sound.{sound_cache}
use Rattle.framehop_unwinder.proofs.session.Session.add_cache_with_context.Goals as goal

pub invariant_of-self-2 : goal.invariant_of-self-2
invariant_of-self-2 g c =
    let m = g.A.ModuleUnwinding.meanings in
    let R = g.row.A-UnwindRule.Denot in
    let s = c.self.inside in
    let old = caches_by_number s.caches in
    let pushed = ap (λ cs. sets_of_all (map (option_map rules_of) cs)) c.in_ok-place.ensures.added
    ∙ ap sets_of_all (map_push (option_map rules_of) (by_number s.caches) (Some c.in_ok-cache.cache))
    ∙ map_push (option_map (λ (k : Kept R). k.sets)) old (Some (rules_of c.in_ok-cache.cache))
    ∙ ap (λ (k : Kept R). sets_of_all old ++ Some k.sets ∷ []) c.in_ok-cache.ensures in
    order-of-caches m s.generations s.unwinders s.caches c.self.invariant c.add.new.self _ c.add.ensures.numbered pushed (sound_cache (layout_of c.args.slots) m s.generations (by_number s.unwinders) (sets_of_all old) c.self.invariant.sound)

pub returns-clause-histories : goal.returns-clause-histories
returns-clause-histories g c =
    let R = g.row.A-UnwindRule.Denot in
    let s = c.self.inside in
    let pushed : caches_by_number c.add.new.self ≡ caches_by_number s.caches ++ Some (new_kept c.args.slots) ∷ [] =
    ap (map (option_map rules_of)) c.in_ok-place.ensures.added ∙ map_push (option_map rules_of) (by_number s.caches) (Some c.in_ok-cache.cache)
    ∙ ap (λ (k : Kept R). caches_by_number s.caches ++ Some k ∷ []) c.in_ok-cache.ensures in
    let is : caches_by_number c.add.new.self ≡ c.args.self.now.caches ++ Some (new_kept c.args.slots) ∷ [] =
    pushed ∙ ap (λ (x : SessionState g.row.A-UnwindData.Denot R). x.caches ++ Some (new_kept c.args.slots) ∷ []) c.self.view_is in
    λ histories have. subst (HaveHistories (histories ++ Some (no_history c.args.slots) ∷ [])) (sym is)
    (push-have histories c.args.self.now.caches (no_history c.args.slots) (new_kept c.args.slots) have (new-has c.args.slots))
