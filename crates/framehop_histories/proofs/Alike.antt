-- States with the same modules, numbers of caches, next number and walks.
use Rattle.std.proofs.Common.{◌≡◌, ◌∙◌, ℕ, zero, suc, ◌^◌, ◌-◌, ◌+◌, Bool, true, false, List, [], ◌∷◌, ◌++◌, Option, Some, None, sym, ap, refl, map, subst}
use Rattle.std.specs.Prelude.{nat_lt, if◌then◌else◌, option_map, slice_set, unwrap_or}
use Rattle.std.specs.List.{slice_get}
use Rattle.std.proofs.lemmas.List.{map-set, map_push}
use Rattle.framehop_unwinder.specs.Attempt.{Meanings}
use Rattle.framehop_unwinder.specs.ByNumber.{held, is_held, mark, marks}
use Rattle.framehop_unwinder.specs.Frames.{Frame}
use Rattle.framehop_unwinder.specs.History.{KeyHistory, no_history}
use Rattle.framehop_unwinder.specs.Judge.{judge}
use Rattle.framehop_unwinder.specs.Modules.{Loaded, Loads, is_loaded_at, with_loaded, without_loaded}
use Rattle.framehop_unwinder.specs.Progress.{modules_in}
use Rattle.framehop_unwinder.specs.State.{unwinder_at, loads_with, histories_after_step, histories_after_move}
use Rattle.framehop_unwinder.specs.Walk.{Walk, WalkPosition, Starts, At, Over, move}
use Rattle.framehop_unwinder.specs.WalkViews.{walk_from}
use Rattle.framehop_histories.specs.Alike.{AreAlike}
use Rattle.framehop_histories.specs.Commands.{Act, NewUnwinder, NewCache, Load, Unload, Clone, RemoveUnwinder, RemoveCache, Step, NewWalk, NextFrame, CommandState, Reply, Added, Removed, Unknown, Exhausted, Stepped, Moved, if_known, stepped, moved, reply_to}
use Rattle.framehop_histories.specs.StateAfter.{state_after, state_done, walk_place, model_with_modules, with_moved}
use Rattle.framehop_histories.proofs.Held.{held-by-marks, marks-changed}

-- the reply from these parts of a state
abbrev reply_by : {D R Regs : Type 0} → Meanings D R Regs → Act D Regs → List (Option (List (Loaded D))) → List (Option (Unit {0})) → ℕ → List (Walk Regs) → Reply Regs
reply_by m NewUnwinder modules caches next walks = if nat_lt next (2 ^ 64 - 1) then Added else Exhausted
reply_by m (NewCache slots) modules caches next walks = Added
reply_by m (Load i module_) modules caches next walks = if_known (held modules i) (λ found. if nat_lt next (2 ^ 64 - 1) then Added else Exhausted)
reply_by m (Unload i start) modules caches next walks =
    if_known (held modules i) (λ found. if is_loaded_at start found then (if nat_lt next (2 ^ 64 - 1) then Removed else Exhausted) else Removed)
reply_by m (Clone i) modules caches next walks = if_known (held modules i) (λ found. Added)
reply_by m (RemoveUnwinder i) modules caches next walks = if_known (held modules i) (λ found. Removed)
reply_by m (RemoveCache c) modules caches next walks = if is_held caches c then Removed else Unknown
reply_by m (Step i c frame registers words) modules caches next walks =
    if_known (if is_held caches c then held modules i else None) (λ found. stepped registers (judge m found frame registers words))
reply_by m (NewWalk pc registers) modules caches next walks = Added
reply_by m (NextFrame i c w words) modules caches next walks =
    if_known (if is_held caches c then held modules i else None) (λ found. if_known (slice_get walks w) (λ there. moved (move (judge m found) words there)))

abbrev modules-in : {D : Type 0} → List (Option (Loads (Loaded D))) → List (Option (List (Loaded D)))
modules-in {D} unwinders = map (option_map (λ (u : Loads (Loaded D)). u.modules)) unwinders

if-marked : {X A : Type 0} (xs : List (Option X)) (c : ℕ) (one other : A) → (if is_held xs c then one else other) ≡ (if is_held (marks xs) c then one else other)
if-marked xs c one other = ap (λ (b : Bool). if b then one else other) (held-by-marks xs c)

by-parts : {D R Regs : Type 0} (m : Meanings D R Regs) (act : Act D Regs) (state : CommandState D Regs)
    → reply_to m act state ≡ reply_by m act (modules-in state.model.unwinders) (marks state.model.histories) state.model.next state.walks
by-parts m NewUnwinder state = refl
by-parts m (NewCache slots) state = refl
by-parts m (Load i module_) state = refl
by-parts m (Unload i start) state = refl
by-parts m (Clone i) state = refl
by-parts m (RemoveUnwinder i) state = refl
by-parts m (RemoveCache c) state = if-marked state.model.histories c Removed Unknown
by-parts {D} m (Step i c frame registers words) state =
    ap (λ (found : Option (List (Loaded D))). if_known found (λ modules. stepped registers (judge m modules frame registers words)))
    (if-marked state.model.histories c (held (modules-in state.model.unwinders) i) None)
by-parts m (NewWalk pc registers) state = refl
by-parts {D} m (NextFrame i c w words) state =
    ap (λ (found : Option (List (Loaded D))). if_known found (λ modules. if_known (slice_get state.walks w) (λ there. moved (move (judge m modules) words there))))
    (if-marked state.model.histories c (held (modules-in state.model.unwinders) i) None)

pub reply-alike : {D R Regs : Type 0} (m : Meanings D R Regs) (act : Act D Regs) (one other : CommandState D Regs) → AreAlike one other → reply_to m act one ≡ reply_to m act other
reply-alike {D} {R} {Regs} m act one other alike =
    by-parts m act one
    ∙ ap (λ (modules : List (Option (List (Loaded D)))). reply_by m act modules (marks one.model.histories) one.model.next one.walks) alike.modules
    ∙ ap (λ (caches : List (Option (Unit {0}))). reply_by m act (modules-in other.model.unwinders) caches one.model.next one.walks) alike.caches
    ∙ ap (λ (next : ℕ). reply_by m act (modules-in other.model.unwinders) (marks other.model.histories) next one.walks) alike.next
    ∙ ap (λ (walks : List (Walk Regs)). reply_by m act (modules-in other.model.unwinders) (marks other.model.histories) other.model.next walks) alike.walks
    ∙ sym (by-parts m act other)

-- the modules of an unwinder, by the modules of all
modules-or : {D : Type 0} (o : Option (Loads (Loaded D))) → (unwrap_or o (record { modules = []; generation = 0 })).modules ≡ unwrap_or (option_map (λ (u : Loads (Loaded D)). u.modules) o) []
modules-or None = refl
modules-or (Some u) = refl

modules-got : {D : Type 0} (us : List (Option (Loads (Loaded D)))) (i : ℕ) → (unwinder_at us i).modules ≡ unwrap_or (held (modules-in us) i) []
modules-got [] i = refl
modules-got (o ∷ us) zero = modules-or o
modules-got (o ∷ us) (suc i) = modules-got us i

modules-at : {D : Type 0} (us vs : List (Option (Loads (Loaded D)))) (i : ℕ) → modules-in us ≡ modules-in vs → (unwinder_at us i).modules ≡ (unwinder_at vs i).modules
modules-at {D} us vs i same = modules-got us i ∙ ap (λ (modules : List (Option (List (Loaded D)))). unwrap_or (held modules i) []) same ∙ sym (modules-got vs i)

push-alike : {D : Type 0} (us vs : List (Option (Loads (Loaded D)))) (u v : Loads (Loaded D)) → modules-in us ≡ modules-in vs → u.modules ≡ v.modules → modules-in (us ++ Some u ∷ []) ≡ modules-in (vs ++ Some v ∷ [])
push-alike {D} us vs u v same also =
    map_push (option_map (λ (x : Loads (Loaded D)). x.modules)) us (Some u)
    ∙ ap (λ (modules : List (Option (List (Loaded D)))). modules ++ Some u.modules ∷ []) same
    ∙ ap (λ (last : List (Loaded D)). modules-in vs ++ Some last ∷ []) also
    ∙ sym (map_push (option_map (λ (x : Loads (Loaded D)). x.modules)) vs (Some v))

set-alike : {D : Type 0} (us vs : List (Option (Loads (Loaded D)))) (i : ℕ) (u v : Option (Loads (Loaded D))) → modules-in us ≡ modules-in vs
    → option_map (λ (x : Loads (Loaded D)). x.modules) u ≡ option_map (λ (x : Loads (Loaded D)). x.modules) v → modules-in (slice_set us i u) ≡ modules-in (slice_set vs i v)
set-alike {D} us vs i u v same also =
    map-set (option_map (λ (x : Loads (Loaded D)). x.modules)) us i u
    ∙ ap (λ (modules : List (Option (List (Loaded D)))). slice_set modules i (option_map (λ (x : Loads (Loaded D)). x.modules) u)) same
    ∙ ap (λ (one : Option (List (Loaded D))). slice_set (modules-in vs) i one) also
    ∙ sym (map-set (option_map (λ (x : Loads (Loaded D)). x.modules)) vs i v)

module _ {D R Regs : Type 0} (m : Meanings D R Regs) where
  step-count : (wanted : Bool) (frame : Frame) (loads : Loads (Loaded D)) (c : ℕ) (hs : List (Option KeyHistory)) → marks (histories_after_step m wanted frame loads c hs) ≡ marks hs
  step-count wanted frame loads c hs = marks-changed _ hs c

  move-count : (wanted : Bool) (place : WalkPosition) (loads : Loads (Loaded D)) (c : ℕ) (hs : List (Option KeyHistory)) → marks (histories_after_move m wanted place loads c hs) ≡ marks hs
  move-count wanted (Starts pc) loads c hs = refl
  move-count wanted (At frame) loads c hs = marks-changed _ hs c
  move-count wanted Over loads c hs = refl

  set-modules-alike : (one other : CommandState D Regs) (i : ℕ) (found also : List (Loaded D)) → AreAlike one other → found ≡ also
      → AreAlike (record one { model = model_with_modules i found one.model }) (record other { model = model_with_modules i also other.model })
  set-modules-alike one other i found also alike same = record {
    modules = set-alike one.model.unwinders other.model.unwinders i (Some (loads_with found one.model.next)) (Some (loads_with also other.model.next)) alike.modules (ap (λ (modules : List (Loaded D)). Some modules) same);
    caches = alike.caches;
    next = ap (λ n. n + 1) alike.next;
    walks = alike.walks;
  }

  unload-alike : (has : Bool) (one other : CommandState D Regs) (i : ℕ) (found also : List (Loaded D)) → AreAlike one other → found ≡ also
      → AreAlike (record one { model = if has then model_with_modules i found one.model else one.model }) (record other { model = if has then model_with_modules i also other.model else other.model })
  unload-alike true one other i found also alike same = set-modules-alike one other i found also alike same
  unload-alike false one other i found also alike same = alike

  done-alike : (act : Act D Regs) (one other : CommandState D Regs) → AreAlike one other → AreAlike (state_done m act one) (state_done m act other)
  done-alike NewUnwinder one other alike = record {
    modules = push-alike one.model.unwinders other.model.unwinders (loads_with [] one.model.next) (loads_with [] other.model.next) alike.modules refl;
    caches = alike.caches;
    next = ap (λ n. n + 1) alike.next;
    walks = alike.walks;
  }
  done-alike (NewCache slots) one other alike = record {
    modules = alike.modules;
    caches = map_push (option_map mark) one.model.histories (Some (no_history slots)) ∙ ap (λ (ms : List (Option (Unit {0}))). ms ++ Some tt ∷ []) alike.caches
        ∙ sym (map_push (option_map mark) other.model.histories (Some (no_history slots)));
    next = alike.next;
    walks = alike.walks;
  }
  done-alike (Load i module_) one other alike =
      set-modules-alike one other i (with_loaded module_ (modules_in i one.model)) (with_loaded module_ (modules_in i other.model)) alike
      (ap (λ (found : List (Loaded D)). with_loaded module_ found) (modules-at one.model.unwinders other.model.unwinders i alike.modules))
  done-alike (Unload i start) one other alike =
      let same = modules-at one.model.unwinders other.model.unwinders i alike.modules in
      let less = without_loaded start (modules_in i other.model) in
      subst (λ (has : Bool). AreAlike (state_done m (Unload i start) one) (record other { model = if has then model_with_modules i less other.model else other.model }))
      (ap (λ (found : List (Loaded D)). is_loaded_at start found) same)
      (unload-alike (is_loaded_at start (modules_in i one.model)) one other i (without_loaded start (modules_in i one.model)) less alike (ap (λ (found : List (Loaded D)). without_loaded start found) same))
  done-alike (Clone i) one other alike = record {
    modules = push-alike one.model.unwinders other.model.unwinders (unwinder_at one.model.unwinders i) (unwinder_at other.model.unwinders i) alike.modules (modules-at one.model.unwinders other.model.unwinders i alike.modules);
    caches = alike.caches;
    next = alike.next;
    walks = alike.walks;
  }
  done-alike (RemoveUnwinder i) one other alike = record {
    modules = set-alike one.model.unwinders other.model.unwinders i None None alike.modules refl;
    caches = alike.caches;
    next = alike.next;
    walks = alike.walks;
  }
  done-alike (RemoveCache c) one other alike = record {
    modules = alike.modules;
    caches = map-set (option_map mark) one.model.histories c None ∙ ap (λ (ms : List (Option (Unit {0}))). slice_set ms c None) alike.caches
        ∙ sym (map-set (option_map mark) other.model.histories c None);
    next = alike.next;
    walks = alike.walks;
  }
  done-alike (Step i c frame registers words) one other alike = record {
    modules = alike.modules;
    caches = step-count false frame (unwinder_at one.model.unwinders i) c one.model.histories ∙ alike.caches ∙ sym (step-count false frame (unwinder_at other.model.unwinders i) c other.model.histories);
    next = alike.next;
    walks = alike.walks;
  }
  done-alike (NewWalk pc registers) one other alike = record {
    modules = alike.modules;
    caches = alike.caches;
    next = alike.next;
    walks = ap (λ (walks : List (Walk Regs)). walks ++ walk_from pc registers ∷ []) alike.walks;
  }
  done-alike (NextFrame i c w words) one other alike = record {
    modules = alike.modules;
    caches = move-count false (walk_place one.walks w) (unwinder_at one.model.unwinders i) c one.model.histories ∙ alike.caches ∙ sym (move-count false (walk_place other.walks w) (unwinder_at other.model.unwinders i) c other.model.histories);
    next = alike.next;
    walks = ap (λ (found : List (Loaded D)). with_moved (judge m found) words w one.walks) (modules-at one.model.unwinders other.model.unwinders i alike.modules)
        ∙ ap (λ (walks : List (Walk Regs)). with_moved (judge m (modules_in i other.model)) words w walks) alike.walks;
  }

  refused-alike : (act : Act D Regs) (one other : CommandState D Regs) → AreAlike one other → AreAlike (state_after m act one None) (state_after m act other None)
  refused-alike NewUnwinder one other alike = alike
  refused-alike (NewCache slots) one other alike = alike
  refused-alike (Load i module_) one other alike = alike
  refused-alike (Unload i start) one other alike = alike
  refused-alike (Clone i) one other alike = alike
  refused-alike (RemoveUnwinder i) one other alike = alike
  refused-alike (RemoveCache c) one other alike = alike
  refused-alike (Step i c frame registers words) one other alike = record {
    modules = alike.modules;
    caches = step-count true frame (unwinder_at one.model.unwinders i) c one.model.histories ∙ alike.caches ∙ sym (step-count true frame (unwinder_at other.model.unwinders i) c other.model.histories);
    next = alike.next;
    walks = alike.walks;
  }
  refused-alike (NewWalk pc registers) one other alike = alike
  refused-alike (NextFrame i c w words) one other alike = record {
    modules = alike.modules;
    caches = move-count true (walk_place one.walks w) (unwinder_at one.model.unwinders i) c one.model.histories ∙ alike.caches ∙ sym (move-count true (walk_place other.walks w) (unwinder_at other.model.unwinders i) c other.model.histories);
    next = alike.next;
    walks = alike.walks;
  }

  pub stay-alike : (act : Act D Regs) (reply : Option (Reply Regs)) (one other : CommandState D Regs) → AreAlike one other → AreAlike (state_after m act one reply) (state_after m act other reply)
  stay-alike act None one other alike = refused-alike act one other alike
  stay-alike act (Some Added) one other alike = done-alike act one other alike
  stay-alike act (Some Removed) one other alike = done-alike act one other alike
  stay-alike act (Some Unknown) one other alike = alike
  stay-alike act (Some Exhausted) one other alike = alike
  stay-alike act (Some (Stepped answer registers)) one other alike = done-alike act one other alike
  stay-alike act (Some (Moved answer registers)) one other alike = done-alike act one other alike
