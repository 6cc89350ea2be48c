use Rattle.std.proofs.Common.{ap, ◌≡◌, map, List, Option, Some, true, sym, subst, ◌∙◌, refl}
use Rattle.std.specs.Prelude.{is_some, option_copied, option_map, slice_set}
use Rattle.std.specs.Vec.{with_item}
use Rattle.std.proofs.lemmas.List.{map-set}
use Rattle.framehop_rules.specs.Outcome.{IsStep}
use Rattle.framehop_rules.specs.Slots.{Kept}
use Rattle.framehop_unwinder.specs.ByNumber.{held, is_held, marks, with_changed}
use Rattle.framehop_unwinder.specs.CacheViews.{rules_of}
use Rattle.framehop_unwinder.specs.Frames.{frame_of}
use Rattle.framehop_unwinder.specs.History.{HaveHistories}
use Rattle.framehop_unwinder.specs.IdViews.{cache_number, unwinder_number}
use Rattle.framehop_unwinder.specs.Judge.{judge}
use Rattle.framehop_unwinder.specs.Modules.{Loaded, Loads}
use Rattle.framehop_unwinder.specs.NumberedViews.{by_number}
use Rattle.framehop_unwinder.specs.RulesKept.{Sets, key_for, rule_kept, sets_after}
use Rattle.framehop_unwinder.specs.SessionViews.{caches_by_number}
use Rattle.framehop_unwinder.specs.State.{SessionState, unwinder_at, histories_after_step, sets_of_all}
use Rattle.framehop_unwinder.specs.Trials.{wants_memory}
use Rattle.framehop_unwinder.specs.declared.cache.Cache.{Cache}
use Rattle.framehop_unwinder.specs.declared.numbered.Numbered.{Numbered}
use Rattle.framehop_unwinder.proofs.HitReads.{session-reads}
use Rattle.framehop_unwinder.proofs.Held.{changed-is, held-map, marks-changed}
use Rattle.framehop_unwinder.proofs.Histories.{stands_after, step-have}
use Rattle.framehop_unwinder.proofs.Loads.{holding, read-is}
use Rattle.framehop_unwinder.proofs.Sessions.{and-false, and-true, cache-read, finds, finds-none, held-in-slot, held-mapped, held-nowhere, order-of-caches, put-back, put-in-slot}
use Rattle.framehop_unwinder.proofs.Sound.{fits_at, kept-is, sound_step}
use Rattle.framehop_unwinder.proofs.session.Session.step.Goals as goal

pub invariant_of-self-2 : goal.invariant_of-self-2
invariant_of-self-2 g c =
    let D = g.row.A-UnwindData.Denot in
    let R = g.row.A-UnwindRule.Denot in
    let m = g.A.ModuleUnwinding.meanings in
    let s = c.self.inside in
    let n = unwinder_number c.args.unwinder in
    let k = cache_number c.args.cache in
    let loads = by_number s.unwinders in
    let rules = caches_by_number s.caches in
    let sets = sets_of_all rules in
    let now = c.args.self.now in
    let u = c.in-Some.unwinder.now in
    let mine : held loads n ≡ Some u = sym c.get.ensures ∙ ap option_copied c.in-Some.is in
    let slot = c.in-Some-slot_of.slot in
    let slot_is = c.in-Some-slot_of.ensures in
    let read = held-in-slot s.caches slot k c.index_mut.result.now c.self.invariant.caches_numbered slot_is.inside slot_is.here c.index_mut.ensures.value in
    let cache = c.in-Some-index_mut.cache in
    let old = rules_of cache in
    let kept : held (by_number s.caches) k ≡ Some cache = read ∙ c.in-Some-index_mut.is in
    let kept_rules : held rules k ≡ Some old = held-map rules_of (by_number s.caches) k ∙ ap (option_map rules_of) kept in
    let kept_sets : held sets k ≡ Some old.sets = held-map (λ (x : Kept R). x.sets) rules k ∙ ap (option_map (λ (x : Kept R). x.sets)) kept_rules in
    let e = c.unwind_frame.ensures in
    let new = c.unwind_frame.new.cache in
    let is = read-is loads s.generations rules now c.self.view_is n u mine in
    let all_new : Numbered (Cache R g.row.A-UnwindContext.Denot g.row.A-UnwindRegs.Denot) = record s.caches { values = with_item s.caches.values slot (Some new) } in
    let put = put-in-slot s.caches all_new refl refl slot k (Some new) refl slot_is.inside slot_is.here c.self.invariant.caches_numbered in
    let w = wants_memory c.unwind_frame.result in
    let key = key_for (frame_of c.args.address) u.generation in
    let after = sets_after w (rule_kept m u.modules) key old.layout old.sets in
    order-of-caches m s.generations s.unwinders s.caches c.self.invariant all_new (slice_set sets k (Some after)) put.1
    (ap (λ xs. sets_of_all (map (option_map rules_of) xs)) put.0
    ∙ ap sets_of_all (map-set (option_map rules_of) (by_number s.caches) k (Some new))
    ∙ map-set (option_map (λ (x : Kept R). x.sets)) rules k (Some (rules_of new))
    ∙ ap (λ (x : Sets R). slice_set sets k (Some x)) e.cache.sets)
    (sound_step m s.generations loads sets w n k u old.sets key old.layout mine kept_sets refl c.self.invariant.sound)

pub returns-clause-found : goal.returns-clause-found
returns-clause-found g c =
    let D = g.row.A-UnwindData.Denot in
    let R = g.row.A-UnwindRule.Denot in
    let m = g.A.ModuleUnwinding.meanings in
    let s = c.self.inside in
    let n = unwinder_number c.args.unwinder in
    let k = cache_number c.args.cache in
    let loads = by_number s.unwinders in
    let rules = caches_by_number s.caches in
    let sets = sets_of_all rules in
    let now = c.args.self.now in
    let u = c.in-Some.unwinder.now in
    let mine : held loads n ≡ Some u = sym c.get.ensures ∙ ap option_copied c.in-Some.is in
    let slot = c.in-Some-slot_of.slot in
    let slot_is = c.in-Some-slot_of.ensures in
    let read = held-in-slot s.caches slot k c.index_mut.result.now c.self.invariant.caches_numbered slot_is.inside slot_is.here c.index_mut.ensures.value in
    let cache = c.in-Some-index_mut.cache in
    let old = rules_of cache in
    let kept : held (by_number s.caches) k ≡ Some cache = read ∙ c.in-Some-index_mut.is in
    let kept_rules : held rules k ≡ Some old = held-map rules_of (by_number s.caches) k ∙ ap (option_map rules_of) kept in
    let kept_sets : held sets k ≡ Some old.sets = held-map (λ (x : Kept R). x.sets) rules k ∙ ap (option_map (λ (x : Kept R). x.sets)) kept_rules in
    let e = c.unwind_frame.ensures in
    let new = c.unwind_frame.new.cache in
    let is = read-is loads s.generations rules now c.self.view_is n u mine in
    let told : is_held now.unwinders n ≡ true = ap (λ (x : SessionState D R). is_held x.unwinders n) (sym c.self.view_is) ∙ ap is_some mine in
    let found : is_held now.caches k ≡ true = ap (λ (x : SessionState D R). is_held x.caches k) (sym c.self.view_is) ∙ ap is_some kept_rules in
    finds _ _ _ _ (and-true _ _ told found)

pub returns-in_default-slot_of-clause-found : goal.returns-in_default-slot_of-clause-found
returns-in_default-slot_of-clause-found g c =
    let s = c.self.inside in
    let k = cache_number c.args.cache in
    let none = held-nowhere s.caches k c.self.invariant.caches_numbered c.in_default-slot_of.ensures.nowhere in
    finds-none _ _ _ _ (and-false _ _ (ap (λ (x : SessionState g.row.A-UnwindData.Denot g.row.A-UnwindRule.Denot). is_held x.caches k) (sym c.self.view_is) ∙ held-mapped rules_of (by_number s.caches) k ∙ ap is_some none)) refl

pub returns-in_default-index_mut-clause-found : goal.returns-in_default-index_mut-clause-found
returns-in_default-index_mut-clause-found g c =
    let D = g.row.A-UnwindData.Denot in
    let R = g.row.A-UnwindRule.Denot in
    let s = c.self.inside in
    let k = cache_number c.args.cache in
    let slot = c.in-Some-slot_of.slot in
    let slot_is = c.in-Some-slot_of.ensures in
    let read = held-in-slot s.caches slot k c.index_mut.result.now c.self.invariant.caches_numbered slot_is.inside slot_is.here c.index_mut.ensures.value in
    let same : Numbered (Cache R g.row.A-UnwindContext.Denot g.row.A-UnwindRegs.Denot) = record s.caches { values = with_item s.caches.values slot c.index_mut.result.now } in
    let put = put-back s.caches same refl refl slot c.index_mut.result.now refl c.index_mut.ensures.value c.self.invariant.caches_numbered in
    finds-none _ _ _ _
    (and-false _ _ (ap (λ (x : SessionState D R). is_held x.caches k) (sym c.self.view_is) ∙ held-mapped rules_of (by_number s.caches) k ∙ ap is_some (read ∙ c.in_default-index_mut.is)))
    (ap (λ (xs : List (Option (Cache R g.row.A-UnwindContext.Denot g.row.A-UnwindRegs.Denot))). holding (by_number s.unwinders) s.generations (map (option_map rules_of) xs)) put.0 ∙ c.self.view_is)

pub returns-clause-step : goal.returns-clause-step
returns-clause-step g c =
    let D = g.row.A-UnwindData.Denot in
    let R = g.row.A-UnwindRule.Denot in
    let m = g.A.ModuleUnwinding.meanings in
    let s = c.self.inside in
    let n = unwinder_number c.args.unwinder in
    let k = cache_number c.args.cache in
    let loads = by_number s.unwinders in
    let rules = caches_by_number s.caches in
    let sets = sets_of_all rules in
    let now = c.args.self.now in
    let u = c.in-Some.unwinder.now in
    let mine : held loads n ≡ Some u = sym c.get.ensures ∙ ap option_copied c.in-Some.is in
    let slot = c.in-Some-slot_of.slot in
    let slot_is = c.in-Some-slot_of.ensures in
    let read = held-in-slot s.caches slot k c.index_mut.result.now c.self.invariant.caches_numbered slot_is.inside slot_is.here c.index_mut.ensures.value in
    let cache = c.in-Some-index_mut.cache in
    let old = rules_of cache in
    let kept : held (by_number s.caches) k ≡ Some cache = read ∙ c.in-Some-index_mut.is in
    let kept_rules : held rules k ≡ Some old = held-map rules_of (by_number s.caches) k ∙ ap (option_map rules_of) kept in
    let kept_sets : held sets k ≡ Some old.sets = held-map (λ (x : Kept R). x.sets) rules k ∙ ap (option_map (λ (x : Kept R). x.sets)) kept_rules in
    let e = c.unwind_frame.ensures in
    let new = c.unwind_frame.new.cache in
    let is = read-is loads s.generations rules now c.self.view_is n u mine in
    let fits = fits_at m s.generations loads sets n k u old.sets mine kept_sets c.self.invariant.sound in
    record {
      said = λ words answers wanted.
          subst (λ (x : Loads (Loaded D)). IsStep c.unwind_frame.result c.args.regs.now c.unwind_frame.new.regs (judge m x.modules (frame_of c.args.address) c.args.regs.now words)) is
          (e.step.said words answers fits wanted);
      still = e.step.still;
    }

pub returns-clause-order : goal.returns-clause-order
returns-clause-order g c =
    let D = g.row.A-UnwindData.Denot in
    let R = g.row.A-UnwindRule.Denot in
    let m = g.A.ModuleUnwinding.meanings in
    let s = c.self.inside in
    let n = unwinder_number c.args.unwinder in
    let k = cache_number c.args.cache in
    let loads = by_number s.unwinders in
    let rules = caches_by_number s.caches in
    let sets = sets_of_all rules in
    let now = c.args.self.now in
    let u = c.in-Some.unwinder.now in
    let mine : held loads n ≡ Some u = sym c.get.ensures ∙ ap option_copied c.in-Some.is in
    let slot = c.in-Some-slot_of.slot in
    let slot_is = c.in-Some-slot_of.ensures in
    let read = held-in-slot s.caches slot k c.index_mut.result.now c.self.invariant.caches_numbered slot_is.inside slot_is.here c.index_mut.ensures.value in
    let cache = c.in-Some-index_mut.cache in
    let old = rules_of cache in
    let kept : held (by_number s.caches) k ≡ Some cache = read ∙ c.in-Some-index_mut.is in
    let kept_rules : held rules k ≡ Some old = held-map rules_of (by_number s.caches) k ∙ ap (option_map rules_of) kept in
    let kept_sets : held sets k ≡ Some old.sets = held-map (λ (x : Kept R). x.sets) rules k ∙ ap (option_map (λ (x : Kept R). x.sets)) kept_rules in
    let e = c.unwind_frame.ensures in
    let new = c.unwind_frame.new.cache in
    let is = read-is loads s.generations rules now c.self.view_is n u mine in
    let theirs : held now.caches k ≡ Some old = cache-read now s.caches k (Some cache) (ap (λ (x : SessionState D R). x.caches) c.self.view_is) kept in
    session-reads _ _ _ g.A.UnwindRule.UnwindRule.reads now c.args.unwinder c.args.cache (frame_of c.args.address) c.args.regs.now u old is theirs e.order

pub returns-clause-caches : goal.returns-clause-caches
returns-clause-caches g c =
    let D = g.row.A-UnwindData.Denot in
    let R = g.row.A-UnwindRule.Denot in
    let m = g.A.ModuleUnwinding.meanings in
    let s = c.self.inside in
    let n = unwinder_number c.args.unwinder in
    let k = cache_number c.args.cache in
    let loads = by_number s.unwinders in
    let rules = caches_by_number s.caches in
    let sets = sets_of_all rules in
    let now = c.args.self.now in
    let u = c.in-Some.unwinder.now in
    let mine : held loads n ≡ Some u = sym c.get.ensures ∙ ap option_copied c.in-Some.is in
    let slot = c.in-Some-slot_of.slot in
    let slot_is = c.in-Some-slot_of.ensures in
    let read = held-in-slot s.caches slot k c.index_mut.result.now c.self.invariant.caches_numbered slot_is.inside slot_is.here c.index_mut.ensures.value in
    let cache = c.in-Some-index_mut.cache in
    let old = rules_of cache in
    let kept : held (by_number s.caches) k ≡ Some cache = read ∙ c.in-Some-index_mut.is in
    let kept_rules : held rules k ≡ Some old = held-map rules_of (by_number s.caches) k ∙ ap (option_map rules_of) kept in
    let kept_sets : held sets k ≡ Some old.sets = held-map (λ (x : Kept R). x.sets) rules k ∙ ap (option_map (λ (x : Kept R). x.sets)) kept_rules in
    let e = c.unwind_frame.ensures in
    let new = c.unwind_frame.new.cache in
    let is = read-is loads s.generations rules now c.self.view_is n u mine in
    let all_new : Numbered (Cache R g.row.A-UnwindContext.Denot g.row.A-UnwindRegs.Denot) = record s.caches { values = with_item s.caches.values slot (Some new) } in
    let put = put-in-slot s.caches all_new refl refl slot k (Some new) refl slot_is.inside slot_is.here c.self.invariant.caches_numbered in
    let w = wants_memory c.unwind_frame.result in
    let stands : Loads (Loaded D) → Kept R → Kept R = λ x y. stands_after w (rule_kept m x.modules) (key_for (frame_of c.args.address) x.generation) y in
    let theirs : held now.caches k ≡ Some old = cache-read now s.caches k (Some cache) (ap (λ (x : SessionState D R). x.caches) c.self.view_is) kept in
    let mine_now = unwinder_at now.unwinders n in
    let made : map (option_map rules_of) (slice_set (by_number s.caches) k (Some new)) ≡ with_changed (stands mine_now) now.caches k =
    map-set (option_map rules_of) (by_number s.caches) k (Some new)
    ∙ ap (λ (x : Kept R). slice_set rules k (Some x)) (kept-is (rules_of new) _ _ _ e.cache.layout e.cache.sets e.cache.counts)
    ∙ ap (λ (x : Loads (Loaded D)). slice_set rules k (Some (stands x old))) is
    ∙ ap (λ (x : SessionState D R). slice_set x.caches k (Some (stands mine_now old))) c.self.view_is
    ∙ changed-is (stands mine_now) now.caches k old theirs in
    let all = ap (map (option_map rules_of)) put.0 ∙ made in
    record {
      unwinders = ap (λ (x : SessionState D R). x.unwinders) c.self.view_is;
      next = ap (λ (x : SessionState D R). x.next) c.self.view_is;
      held = ap marks all ∙ marks-changed (stands mine_now) now.caches k;
      histories = λ histories have. subst (HaveHistories (histories_after_step m w (frame_of c.args.address) mine_now k histories)) (sym all)
          (step-have w (rule_kept m mine_now.modules) (key_for (frame_of c.args.address) mine_now.generation) histories now.caches k have);
    }
