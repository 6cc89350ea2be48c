use Rattle.std.proofs.Common.{ap, ◌≡◌, map, take, List, Option, Some, true, sym, subst, ◌∙◌, refl}
use Rattle.std.specs.Prelude.{is_some, option_copied, option_map, slice_set}
use Rattle.std.specs.Vec.{with_item}
use Rattle.std.proofs.lemmas.List.{map-set}
use Rattle.framehop_rules.specs.Slots.{Kept}
use Rattle.framehop_unwinder.specs.ByNumber.{held, is_held}
use Rattle.framehop_unwinder.specs.CacheViews.{rules_of}
use Rattle.framehop_unwinder.specs.Frames.{frame_of}
use Rattle.framehop_unwinder.specs.IdViews.{cache_number, unwinder_number}
use Rattle.framehop_unwinder.specs.Memory.{WantsFrom}
use Rattle.framehop_unwinder.specs.Modules.{Loaded, Loads}
use Rattle.framehop_unwinder.specs.NumberedViews.{by_number}
use Rattle.framehop_unwinder.specs.Runs.{RunPoint, Runs, StepsIn, point, run_wants}
use Rattle.framehop_unwinder.specs.SessionViews.{caches_by_number}
use Rattle.framehop_unwinder.specs.State.{IsSound, SessionState, sets_of_all}
use Rattle.framehop_unwinder.specs.declared.cache.Cache.{Cache}
use Rattle.framehop_unwinder.specs.declared.numbered.Numbered.{Numbered}
use Rattle.framehop_unwinder.proofs.Held.{held-map, set-held}
use Rattle.framehop_unwinder.proofs.Loads.{holding, read-is}
use Rattle.framehop_unwinder.proofs.PassedFrames.{runs-in}
use Rattle.framehop_unwinder.proofs.Sessions.{and-false, and-true, finds, finds-none, held-in-slot, held-mapped, held-nowhere, order-of-caches, put-back, put-in-slot}
use Rattle.framehop_unwinder.proofs.session.Session.run_steps.Goals as goal

pub invariant_of-self-2 : goal.invariant_of-self-2
invariant_of-self-2 g c =
    let D = g.row.A-UnwindData.Denot in
    let R = g.row.A-UnwindRule.Denot in
    let m = g.A.ModuleUnwinding.meanings in
    let s = c.self.inside in
    let n = unwinder_number c.args.unwinder in
    let k = cache_number c.args.cache in
    let loads = by_number s.unwinders in
    let rules = caches_by_number s.caches in
    let now = c.args.self.now in
    let u = c.in-Some.unwinder.now in
    let mine : held loads n ≡ Some u = sym c.get.ensures ∙ ap option_copied c.in-Some.is in
    let slot = c.in-Some-slot_of.slot in
    let slot_is = c.in-Some-slot_of.ensures in
    let read = held-in-slot s.caches slot k c.index_mut.result.now c.self.invariant.caches_numbered slot_is.inside slot_is.here c.index_mut.ensures.value in
    let cache = c.in-Some-index_mut.cache in
    let old = rules_of cache in
    let kept : held (by_number s.caches) k ≡ Some cache = read ∙ c.in-Some-index_mut.is in
    let kept_rules : held rules k ≡ Some old = held-map rules_of (by_number s.caches) k ∙ ap (option_map rules_of) kept in
    let e = c.run_steps.ensures in
    let new = c.run_steps.new.cache in
    let all_new : Numbered (Cache R g.row.A-UnwindContext.Denot g.row.A-UnwindRegs.Denot) = record s.caches { values = with_item s.caches.values slot (Some new) } in
    let put = put-in-slot s.caches all_new refl refl slot k (Some new) refl slot_is.inside slot_is.here c.self.invariant.caches_numbered in
    let start = point c.args.at.now c.args.regs.now c.args.read_stack.now old in
    let end = point c.run_steps.new.at c.run_steps.new.regs c.run_steps.new.read_stack (rules_of new) in
    let shared : IsSound m s.generations loads (sets_of_all (slice_set rules k (Some old))) =
    subst (λ (xs : List (Option (Kept R))). IsSound m s.generations loads (sets_of_all xs)) (sym (set-held rules k old kept_rules)) c.self.invariant.sound in
    let ran = runs-in (goal.F-step g) g.A.UnwindRule.UnwindRule.reads m s.generations loads rules c.args.unwinder c.args.cache u old mine kept_rules
    start (take c.run_steps.result.count c.run_steps.new.frames) c.run_steps.result.end end shared e.runs in
    let made : map (option_map rules_of) (by_number all_new) ≡ slice_set rules k (Some (rules_of new)) =
    ap (map (option_map rules_of)) put.0 ∙ map-set (option_map rules_of) (by_number s.caches) k (Some new) in
    order-of-caches m s.generations s.unwinders s.caches c.self.invariant all_new (sets_of_all (slice_set rules k (Some (rules_of new)))) put.1
    (ap sets_of_all made) ran.1

pub returns-clause-found : goal.returns-clause-found
returns-clause-found g c =
    let D = g.row.A-UnwindData.Denot in
    let R = g.row.A-UnwindRule.Denot in
    let m = g.A.ModuleUnwinding.meanings in
    let s = c.self.inside in
    let n = unwinder_number c.args.unwinder in
    let k = cache_number c.args.cache in
    let loads = by_number s.unwinders in
    let rules = caches_by_number s.caches in
    let now = c.args.self.now in
    let u = c.in-Some.unwinder.now in
    let mine : held loads n ≡ Some u = sym c.get.ensures ∙ ap option_copied c.in-Some.is in
    let slot = c.in-Some-slot_of.slot in
    let slot_is = c.in-Some-slot_of.ensures in
    let read = held-in-slot s.caches slot k c.index_mut.result.now c.self.invariant.caches_numbered slot_is.inside slot_is.here c.index_mut.ensures.value in
    let cache = c.in-Some-index_mut.cache in
    let old = rules_of cache in
    let kept : held (by_number s.caches) k ≡ Some cache = read ∙ c.in-Some-index_mut.is in
    let kept_rules : held rules k ≡ Some old = held-map rules_of (by_number s.caches) k ∙ ap (option_map rules_of) kept in
    let told : is_held now.unwinders n ≡ true = ap (λ (x : SessionState D R). is_held x.unwinders n) (sym c.self.view_is) ∙ ap is_some mine in
    let found : is_held now.caches k ≡ true = ap (λ (x : SessionState D R). is_held x.caches k) (sym c.self.view_is) ∙ ap is_some kept_rules in
    finds _ _ _ _ (and-true _ _ told found)

pub returns-in_default-slot_of-clause-found : goal.returns-in_default-slot_of-clause-found
returns-in_default-slot_of-clause-found g c =
    let s = c.self.inside in
    let k = cache_number c.args.cache in
    let none = held-nowhere s.caches k c.self.invariant.caches_numbered c.in_default-slot_of.ensures.nowhere in
    finds-none _ _ _ _ (and-false _ _ (ap (λ (x : SessionState g.row.A-UnwindData.Denot g.row.A-UnwindRule.Denot). is_held x.caches k) (sym c.self.view_is) ∙ held-mapped rules_of (by_number s.caches) k ∙ ap is_some none)) refl

pub returns-in_default-index_mut-clause-found : goal.returns-in_default-index_mut-clause-found
returns-in_default-index_mut-clause-found g c =
    let D = g.row.A-UnwindData.Denot in
    let R = g.row.A-UnwindRule.Denot in
    let s = c.self.inside in
    let k = cache_number c.args.cache in
    let slot = c.in-Some-slot_of.slot in
    let slot_is = c.in-Some-slot_of.ensures in
    let read = held-in-slot s.caches slot k c.index_mut.result.now c.self.invariant.caches_numbered slot_is.inside slot_is.here c.index_mut.ensures.value in
    let same : Numbered (Cache R g.row.A-UnwindContext.Denot g.row.A-UnwindRegs.Denot) = record s.caches { values = with_item s.caches.values slot c.index_mut.result.now } in
    let put = put-back s.caches same refl refl slot c.index_mut.result.now refl c.index_mut.ensures.value c.self.invariant.caches_numbered in
    finds-none _ _ _ _
    (and-false _ _ (ap (λ (x : SessionState D R). is_held x.caches k) (sym c.self.view_is) ∙ held-mapped rules_of (by_number s.caches) k ∙ ap is_some (read ∙ c.in_default-index_mut.is)))
    (ap (λ (xs : List (Option (Cache R g.row.A-UnwindContext.Denot g.row.A-UnwindRegs.Denot))). holding (by_number s.unwinders) s.generations (map (option_map rules_of) xs)) put.0 ∙ c.self.view_is)

pub returns-clause-runs : goal.returns-clause-runs
returns-clause-runs g c =
    let D = g.row.A-UnwindData.Denot in
    let R = g.row.A-UnwindRule.Denot in
    let m = g.A.ModuleUnwinding.meanings in
    let s = c.self.inside in
    let n = unwinder_number c.args.unwinder in
    let k = cache_number c.args.cache in
    let loads = by_number s.unwinders in
    let rules = caches_by_number s.caches in
    let now = c.args.self.now in
    let u = c.in-Some.unwinder.now in
    let mine : held loads n ≡ Some u = sym c.get.ensures ∙ ap option_copied c.in-Some.is in
    let slot = c.in-Some-slot_of.slot in
    let slot_is = c.in-Some-slot_of.ensures in
    let read = held-in-slot s.caches slot k c.index_mut.result.now c.self.invariant.caches_numbered slot_is.inside slot_is.here c.index_mut.ensures.value in
    let cache = c.in-Some-index_mut.cache in
    let old = rules_of cache in
    let kept : held (by_number s.caches) k ≡ Some cache = read ∙ c.in-Some-index_mut.is in
    let kept_rules : held rules k ≡ Some old = held-map rules_of (by_number s.caches) k ∙ ap (option_map rules_of) kept in
    let e = c.run_steps.ensures in
    let new = c.run_steps.new.cache in
    let all_new : Numbered (Cache R g.row.A-UnwindContext.Denot g.row.A-UnwindRegs.Denot) = record s.caches { values = with_item s.caches.values slot (Some new) } in
    let put = put-in-slot s.caches all_new refl refl slot k (Some new) refl slot_is.inside slot_is.here c.self.invariant.caches_numbered in
    let start = point c.args.at.now c.args.regs.now c.args.read_stack.now old in
    let end = point c.run_steps.new.at c.run_steps.new.regs c.run_steps.new.read_stack (rules_of new) in
    let shared : IsSound m s.generations loads (sets_of_all (slice_set rules k (Some old))) =
    subst (λ (xs : List (Option (Kept R))). IsSound m s.generations loads (sets_of_all xs)) (sym (set-held rules k old kept_rules)) c.self.invariant.sound in
    let ran = runs-in (goal.F-step g) g.A.UnwindRule.UnwindRule.reads m s.generations loads rules c.args.unwinder c.args.cache u old mine kept_rules
    start (take c.run_steps.result.count c.run_steps.new.frames) c.run_steps.result.end end shared e.runs in
    let made : map (option_map rules_of) (by_number all_new) ≡ slice_set rules k (Some (rules_of new)) =
    ap (map (option_map rules_of)) put.0 ∙ map-set (option_map rules_of) (by_number s.caches) k (Some new) in
    let at_start : SessionState D R → RunPoint g.row.A-UnwindRegs.Denot g.row.F.Denot (SessionState D R) =
    λ session. point c.args.at.now c.args.regs.now c.args.read_stack.now session in
    let at_end : List (Option (Kept R)) → RunPoint g.row.A-UnwindRegs.Denot g.row.F.Denot (SessionState D R) =
    λ caches. point c.run_steps.new.at c.run_steps.new.regs c.run_steps.new.read_stack (holding loads s.generations caches) in
    let Step = StepsIn (goal.F-step g) g.A.UnwindRule.UnwindRule.reads m c.args.unwinder c.args.cache in
    subst (λ (xs : List (Option (Kept R))). Runs Step (at_start now) c.run_steps.result c.run_steps.new.frames (at_end xs)) (sym made)
    (subst (λ (session : SessionState D R). Runs Step (at_start session) c.run_steps.result c.run_steps.new.frames (at_end (slice_set rules k (Some (rules_of new)))))
    (ap (holding loads s.generations) (set-held rules k old kept_rules) ∙ c.self.view_is) ran.0)

pub returns-clause-memory : goal.returns-clause-memory
returns-clause-memory g c =
    let s = c.self.inside in
    let n = unwinder_number c.args.unwinder in
    let loads = by_number s.unwinders in
    let mine : held loads n ≡ Some c.in-Some.unwinder.now = sym c.get.ensures ∙ ap option_copied c.in-Some.is in
    let is = read-is loads s.generations (caches_by_number s.caches) c.args.self.now c.self.view_is n c.in-Some.unwinder.now mine in
    subst (λ (x : Loads (Loaded g.row.A-UnwindData.Denot)). WantsFrom g.A.ModuleUnwinding.takes_memory g.A.ModuleUnwinding.asks_memory x.modules
    (frame_of c.run_steps.new.at) (run_wants c.run_steps.result)) is c.run_steps.ensures.memory
