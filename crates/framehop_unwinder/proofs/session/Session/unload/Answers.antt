use Rattle.std.proofs.Common.{ap, sym, subst, ◌∙◌, ◌≡◌, ◌≤◌, ◌-◌, ◌^◌, List, Option, Some, None, true, refl}
use Rattle.std.specs.Prelude.{OnErr, OnOk, is_some, slice_set}
use Rattle.std.specs.Vec.{with_item}
use Rattle.framehop_unwinder.specs.ByNumber.{held, is_held}
use Rattle.framehop_unwinder.specs.IdViews.{unwinder_number, without_module_in}
use Rattle.framehop_unwinder.specs.Modules.{Loaded, Loads, has_start, with_module, without_module}
use Rattle.framehop_unwinder.specs.NumberedViews.{by_number}
use Rattle.framehop_unwinder.specs.SessionViews.{caches_by_number}
use Rattle.framehop_unwinder.specs.State.{SessionState, sets_of_all}
use Rattle.framehop_unwinder.specs.declared.numbered.Numbered.{Numbered}
use Rattle.framehop_unwinder.proofs.Loads.{holding, read-is, put-same, put-done, put-refused}
use Rattle.framehop_unwinder.proofs.Sessions.{finds, finds-none, held-in-slot, held-nowhere, order-of-unwinders, put-back, put-in-slot}
use Rattle.framehop_unwinder.proofs.Sound.{sound_load, sound_unload}
use Rattle.framehop_unwinder.proofs.session.Session.unload.Goals as goal

pub returns-in_default-clause-found : goal.returns-in_default-clause-found
returns-in_default-clause-found g c =
    let s = c.self.inside in
    let n = unwinder_number c.args.unwinder in
    let none = held-nowhere s.unwinders n c.self.invariant.unwinders_numbered c.in_default.ensures.nowhere in
    finds-none _ _ _ _ (ap (λ (x : SessionState g.row.A-UnwindData.Denot g.row.A-UnwindRule.Denot). is_held x.unwinders n) (sym c.self.view_is) ∙ ap is_some none) refl

pub invariant_of-self : goal.invariant_of-self
invariant_of-self g c =
    let m = g.A.ModuleUnwinding.meanings in
    let s = c.self.inside in
    let n = unwinder_number c.args.unwinder in
    let loads = by_number s.unwinders in
    let sets = sets_of_all (caches_by_number s.caches) in
    let read = held-in-slot s.unwinders c.in-Some.slot n c.index_mut.result.now c.self.invariant.unwinders_numbered c.in-Some.ensures.inside c.in-Some.ensures.here c.index_mut.ensures.value in
    let old = c.in-Some-index_mut.unwinder in
    let there : held loads n ≡ Some old = read ∙ c.in-Some-index_mut.is in
    let e = c.remove_module.ensures in
    let new : Numbered (Loads (Loaded g.row.A-UnwindData.Denot)) = record s.unwinders { values = with_item s.unwinders.values c.in-Some.slot (Some c.remove_module.new.self) } in
    let put = put-in-slot s.unwinders new refl refl c.in-Some.slot n (Some c.remove_module.new.self) refl c.in-Some.ensures.inside c.in-Some.ensures.here c.self.invariant.unwinders_numbered in
    order-of-unwinders m s.generations s.unwinders s.caches c.self.invariant c.remove_module.new.generations new (slice_set loads n (Some c.remove_module.new.self)) put.1 put.0
    (sound_unload m s.generations c.remove_module.new.generations loads sets n old c.remove_module.new.self c.remove_module.result
    (has_start (λ (x : Loaded g.row.A-UnwindData.Denot). x.start) c.args.start old.modules) _ refl
    e.unknown (λ has. (e.number has).generation) (λ has. (e.number has).taken) e.failure.same e.failure.untaken there c.self.invariant.sound)

pub invariant_of-self-in-None : goal.invariant_of-self-in-None
invariant_of-self-in-None g c =
    let m = g.A.ModuleUnwinding.meanings in
    let s = c.self.inside in
    let n = unwinder_number c.args.unwinder in
    let loads = by_number s.unwinders in
    let sets = sets_of_all (caches_by_number s.caches) in
    let read = held-in-slot s.unwinders c.in-Some.slot n c.index_mut.result.now c.self.invariant.unwinders_numbered c.in-Some.ensures.inside c.in-Some.ensures.here c.index_mut.ensures.value in
    let new : Numbered (Loads (Loaded g.row.A-UnwindData.Denot)) = record s.unwinders { values = with_item s.unwinders.values c.in-Some.slot c.index_mut.result.now } in
    let put = put-back s.unwinders new refl refl c.in-Some.slot c.index_mut.result.now refl c.index_mut.ensures.value c.self.invariant.unwinders_numbered in
    order-of-unwinders m s.generations s.unwinders s.caches c.self.invariant s.generations new loads put.1 put.0 c.self.invariant.sound

pub returns-in-Some-index_mut-clause-found : goal.returns-in-Some-index_mut-clause-found
returns-in-Some-index_mut-clause-found g c =
    let m = g.A.ModuleUnwinding.meanings in
    let s = c.self.inside in
    let n = unwinder_number c.args.unwinder in
    let loads = by_number s.unwinders in
    let sets = sets_of_all (caches_by_number s.caches) in
    let read = held-in-slot s.unwinders c.in-Some.slot n c.index_mut.result.now c.self.invariant.unwinders_numbered c.in-Some.ensures.inside c.in-Some.ensures.here c.index_mut.ensures.value in
    let old = c.in-Some-index_mut.unwinder in
    let there : held loads n ≡ Some old = read ∙ c.in-Some-index_mut.is in
    finds _ _ _ _ (ap (λ (x : SessionState g.row.A-UnwindData.Denot g.row.A-UnwindRule.Denot). is_held x.unwinders n) (sym c.self.view_is) ∙ ap is_some there)

pub returns-in-None-clause-found : goal.returns-in-None-clause-found
returns-in-None-clause-found g c =
    let m = g.A.ModuleUnwinding.meanings in
    let s = c.self.inside in
    let n = unwinder_number c.args.unwinder in
    let loads = by_number s.unwinders in
    let sets = sets_of_all (caches_by_number s.caches) in
    let read = held-in-slot s.unwinders c.in-Some.slot n c.index_mut.result.now c.self.invariant.unwinders_numbered c.in-Some.ensures.inside c.in-Some.ensures.here c.index_mut.ensures.value in
    let new : Numbered (Loads (Loaded g.row.A-UnwindData.Denot)) = record s.unwinders { values = with_item s.unwinders.values c.in-Some.slot c.index_mut.result.now } in
    let put = put-back s.unwinders new refl refl c.in-Some.slot c.index_mut.result.now refl c.index_mut.ensures.value c.self.invariant.unwinders_numbered in
    finds-none _ _ _ _ (ap (λ (x : SessionState g.row.A-UnwindData.Denot g.row.A-UnwindRule.Denot). is_held x.unwinders n) (sym c.self.view_is) ∙ ap is_some (read ∙ c.in-None.is))
    (ap (λ (us : List (Option (Loads (Loaded g.row.A-UnwindData.Denot)))). holding us s.generations (caches_by_number s.caches)) put.0 ∙ c.self.view_is)

pub returns-in-Some-index_mut-clause-unknown : goal.returns-in-Some-index_mut-clause-unknown
returns-in-Some-index_mut-clause-unknown g c none =
    let m = g.A.ModuleUnwinding.meanings in
    let s = c.self.inside in
    let n = unwinder_number c.args.unwinder in
    let loads = by_number s.unwinders in
    let sets = sets_of_all (caches_by_number s.caches) in
    let read = held-in-slot s.unwinders c.in-Some.slot n c.index_mut.result.now c.self.invariant.unwinders_numbered c.in-Some.ensures.inside c.in-Some.ensures.here c.index_mut.ensures.value in
    let old = c.in-Some-index_mut.unwinder in
    let there : held loads n ≡ Some old = read ∙ c.in-Some-index_mut.is in
    let new : Numbered (Loads (Loaded g.row.A-UnwindData.Denot)) = record s.unwinders { values = with_item s.unwinders.values c.in-Some.slot (Some c.remove_module.new.self) } in
    let put = put-in-slot s.unwinders new refl refl c.in-Some.slot n (Some c.remove_module.new.self) refl c.in-Some.ensures.inside c.in-Some.ensures.here c.self.invariant.unwinders_numbered in
    let caches = caches_by_number s.caches in
    let e = c.remove_module.ensures in
    let is = read-is loads s.generations caches c.args.self.now c.self.view_is n old there in
    let starts = ap (λ (u : Loads (Loaded g.row.A-UnwindData.Denot)). has_start (λ x. x.start) c.args.start u.modules) is in
    let nothing = e.unknown (starts ∙ none) in (
      nothing.0,
      ap (λ (us : List (Option (Loads (Loaded g.row.A-UnwindData.Denot)))). holding us c.remove_module.new.generations caches) put.0
          ∙ put-same loads s.generations caches c.args.self.now c.self.view_is n old there c.remove_module.new.self c.remove_module.new.generations nothing.1 nothing.2,
    )

pub returns-in-Some-index_mut-clause-ok : goal.returns-in-Some-index_mut-clause-ok
returns-in-Some-index_mut-clause-ok g c has =
    let m = g.A.ModuleUnwinding.meanings in
    let s = c.self.inside in
    let n = unwinder_number c.args.unwinder in
    let loads = by_number s.unwinders in
    let sets = sets_of_all (caches_by_number s.caches) in
    let read = held-in-slot s.unwinders c.in-Some.slot n c.index_mut.result.now c.self.invariant.unwinders_numbered c.in-Some.ensures.inside c.in-Some.ensures.here c.index_mut.ensures.value in
    let old = c.in-Some-index_mut.unwinder in
    let there : held loads n ≡ Some old = read ∙ c.in-Some-index_mut.is in
    let new : Numbered (Loads (Loaded g.row.A-UnwindData.Denot)) = record s.unwinders { values = with_item s.unwinders.values c.in-Some.slot (Some c.remove_module.new.self) } in
    let put = put-in-slot s.unwinders new refl refl c.in-Some.slot n (Some c.remove_module.new.self) refl c.in-Some.ensures.inside c.in-Some.ensures.here c.self.invariant.unwinders_numbered in
    let caches = caches_by_number s.caches in
    let e = c.remove_module.ensures in
    let is = read-is loads s.generations caches c.args.self.now c.self.view_is n old there in
    let starts = ap (λ (u : Loads (Loaded g.row.A-UnwindData.Denot)). has_start (λ x. x.start) c.args.start u.modules) is in
    let number = e.number (starts ∙ has) in
    subst (λ (us : List (Option (Loads (Loaded g.row.A-UnwindData.Denot)))). OnOk c.remove_module.result (holding us c.remove_module.new.generations caches ≡ without_module_in c.args.self.now c.args.unwinder c.args.start)) (sym put.0)
    (put-done loads s.generations caches c.args.self.now c.self.view_is n old there c.remove_module.result c.remove_module.new.self c.remove_module.new.generations
    (without_module (λ (x : Loaded g.row.A-UnwindData.Denot). x.start) c.args.start) e.modules number.generation number.taken)

pub returns-in-Some-index_mut-clause-exhausted : goal.returns-in-Some-index_mut-clause-exhausted
returns-in-Some-index_mut-clause-exhausted g c has last =
    let m = g.A.ModuleUnwinding.meanings in
    let s = c.self.inside in
    let n = unwinder_number c.args.unwinder in
    let loads = by_number s.unwinders in
    let sets = sets_of_all (caches_by_number s.caches) in
    let read = held-in-slot s.unwinders c.in-Some.slot n c.index_mut.result.now c.self.invariant.unwinders_numbered c.in-Some.ensures.inside c.in-Some.ensures.here c.index_mut.ensures.value in
    let old = c.in-Some-index_mut.unwinder in
    let there : held loads n ≡ Some old = read ∙ c.in-Some-index_mut.is in
    let new : Numbered (Loads (Loaded g.row.A-UnwindData.Denot)) = record s.unwinders { values = with_item s.unwinders.values c.in-Some.slot (Some c.remove_module.new.self) } in
    let put = put-in-slot s.unwinders new refl refl c.in-Some.slot n (Some c.remove_module.new.self) refl c.in-Some.ensures.inside c.in-Some.ensures.here c.self.invariant.unwinders_numbered in
    let caches = caches_by_number s.caches in
    let e = c.remove_module.ensures in
    let is = read-is loads s.generations caches c.args.self.now c.self.view_is n old there in
    let starts = ap (λ (u : Loads (Loaded g.row.A-UnwindData.Denot)). has_start (λ x. x.start) c.args.start u.modules) is in
    e.exhausted (starts ∙ has) (subst (λ n. 2 ^ 64 - 1 ≤ n) (ap (λ (x : SessionState g.row.A-UnwindData.Denot g.row.A-UnwindRule.Denot). x.next) (sym c.self.view_is)) last)

pub returns-in-Some-index_mut-clause-refused : goal.returns-in-Some-index_mut-clause-refused
returns-in-Some-index_mut-clause-refused g c =
    let m = g.A.ModuleUnwinding.meanings in
    let s = c.self.inside in
    let n = unwinder_number c.args.unwinder in
    let loads = by_number s.unwinders in
    let sets = sets_of_all (caches_by_number s.caches) in
    let read = held-in-slot s.unwinders c.in-Some.slot n c.index_mut.result.now c.self.invariant.unwinders_numbered c.in-Some.ensures.inside c.in-Some.ensures.here c.index_mut.ensures.value in
    let old = c.in-Some-index_mut.unwinder in
    let there : held loads n ≡ Some old = read ∙ c.in-Some-index_mut.is in
    let new : Numbered (Loads (Loaded g.row.A-UnwindData.Denot)) = record s.unwinders { values = with_item s.unwinders.values c.in-Some.slot (Some c.remove_module.new.self) } in
    let put = put-in-slot s.unwinders new refl refl c.in-Some.slot n (Some c.remove_module.new.self) refl c.in-Some.ensures.inside c.in-Some.ensures.here c.self.invariant.unwinders_numbered in
    let caches = caches_by_number s.caches in
    let e = c.remove_module.ensures in
    let is = read-is loads s.generations caches c.args.self.now c.self.view_is n old there in
    let starts = ap (λ (u : Loads (Loaded g.row.A-UnwindData.Denot)). has_start (λ x. x.start) c.args.start u.modules) is in
    subst (λ (us : List (Option (Loads (Loaded g.row.A-UnwindData.Denot)))). OnErr c.remove_module.result (holding us c.remove_module.new.generations caches ≡ c.args.self.now)) (sym put.0)
    (put-refused loads s.generations caches c.args.self.now c.self.view_is n old there c.remove_module.result c.remove_module.new.self c.remove_module.new.generations e.failure.same e.failure.untaken)
