use Rattle.std.proofs.Common.{ap, sym, ◌∙◌, Option, Some, None, refl}
use Rattle.std.specs.Prelude.{is_some, option_copied, unwrap_or}
use Rattle.framehop_rules.specs.Occupancy.{occupancy_of}
use Rattle.framehop_rules.specs.Slots.{Kept, new_kept}
use Rattle.framehop_unwinder.specs.CacheViews.{rules_of}
use Rattle.framehop_unwinder.specs.IdViews.{cache_number}
use Rattle.framehop_unwinder.specs.State.{SessionState}
use Rattle.framehop_unwinder.proofs.Histories.{occupancy-have}
use Rattle.framehop_unwinder.proofs.Sessions.{cache-read, finds, finds-none}
use Rattle.framehop_unwinder.proofs.session.Session.occupancy.Goals as goal

pub returns-in-Some-clause-found : goal.returns-in-Some-clause-found
returns-in-Some-clause-found g c =
    let now = c.args.self.now in
    let there = cache-read now c.self.inside.caches (cache_number c.args.cache) (Some c.in-Some.cache.now) (ap (λ (s : SessionState g.row.A-UnwindData.Denot g.row.A-UnwindRule.Denot). s.caches) c.self.view_is) (sym c.get.ensures ∙ ap option_copied c.in-Some.is) in
    finds _ _ _ _ (ap is_some there)

pub returns-in-Some-clause-occupancy : goal.returns-in-Some-clause-occupancy
returns-in-Some-clause-occupancy g c =
    let now = c.args.self.now in
    let there = cache-read now c.self.inside.caches (cache_number c.args.cache) (Some c.in-Some.cache.now) (ap (λ (s : SessionState g.row.A-UnwindData.Denot g.row.A-UnwindRule.Denot). s.caches) c.self.view_is) (sym c.get.ensures ∙ ap option_copied c.in-Some.is) in
    c.occupancy.ensures ∙ sym (ap (λ (o : Option (Kept g.row.A-UnwindRule.Denot)). occupancy_of (unwrap_or o (new_kept 509))) there)

pub returns-in-Some-clause-histories : goal.returns-in-Some-clause-histories
returns-in-Some-clause-histories g c =
    let now = c.args.self.now in
    let there = cache-read now c.self.inside.caches (cache_number c.args.cache) (Some c.in-Some.cache.now) (ap (λ (s : SessionState g.row.A-UnwindData.Denot g.row.A-UnwindRule.Denot). s.caches) c.self.view_is) (sym c.get.ensures ∙ ap option_copied c.in-Some.is) in
    λ histories have. c.occupancy.ensures ∙ occupancy-have histories now.caches (cache_number c.args.cache) (rules_of c.in-Some.cache.now) there have

pub returns-in-None-clause-found : goal.returns-in-None-clause-found
returns-in-None-clause-found g c =
    let now = c.args.self.now in
    let gone = cache-read now c.self.inside.caches (cache_number c.args.cache) None (ap (λ (s : SessionState g.row.A-UnwindData.Denot g.row.A-UnwindRule.Denot). s.caches) c.self.view_is) (sym c.get.ensures ∙ ap option_copied c.in-None.is) in
    finds-none _ _ _ _ (ap is_some gone) refl
