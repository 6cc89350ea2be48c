-- What is sound stays so: where a number is taken, an unwinder is put beside the others or in the place of one, a cache is
-- made, a step is made, and an unwinder or a cache is let go.
use Rattle.std.proofs.Common.{◌≡◌, ◌∙◌, ℕ, ◌+◌, ◌<◌, Bool, true, false, List, [], ◌∷◌, ◌++◌, Option, Some, None, sym, ap, subst, refl, arith}
use Rattle.std.specs.Prelude.{slice_set, Result, Ok, Err, OnOk, OnErr}
use Rattle.framehop_rules.specs.Slots.{Key, Kept, Layout, empty_sets}
use Rattle.framehop_rules.specs.declared.rule_cache.CacheStats.{CacheStats}
use Rattle.framehop_unwinder.specs.Attempt.{Meanings}
use Rattle.framehop_unwinder.specs.ByNumber.{AllHeld, held}
use Rattle.framehop_unwinder.specs.Modules.{Loaded, Loads, AreOneBook}
use Rattle.framehop_unwinder.specs.RulesKept.{Fits, KeysBelow, Sets, rule_kept, sets_after}
use Rattle.framehop_unwinder.specs.State.{IsSound}
use Rattle.framehop_unwinder.proofs.Held.{all-weaker, all-both, all-set, all-push, all-at}
use Rattle.framehop_unwinder.proofs.Slots.{fits_after, below_after, new_fits, below_more, empty_fits, empty_below}

-- the next number is taken
pub sound_next : {D R Regs : Type 0} (m : Meanings D R Regs) (next : ℕ) (loads : List (Option (Loads (Loaded D)))) (caches : List (Option (Sets R))) → IsSound m next loads caches → IsSound m (next + 1) loads caches
sound_next {D} {R} m next loads caches s = record {
  older = all-weaker (λ (u : Loads (Loaded D)). u.generation < next) (λ (u : Loads (Loaded D)). u.generation < next + 1) (λ u h. omega arith) loads s.older;
  same = s.same;
  below = all-weaker (KeysBelow next) (KeysBelow (next + 1)) (below_more next) caches s.below;
  fits = s.fits;
}

-- an unwinder that may stand beside the others
pub record Joins {D R Regs : Type 0} (m : Meanings D R Regs) (next : ℕ) (loads : List (Option (Loads (Loaded D)))) (caches : List (Option (Sets R))) (v : Loads (Loaded D)) : Type 0 where
  pub older : v.generation < next
  pub mine : AllHeld (AreOneBook v) loads
  pub theirs : AllHeld (λ u. AreOneBook u v) loads
  pub fits : AllHeld (Fits (rule_kept m v.modules) v.generation) caches

-- one with a new generation
pub joins_new : {D R Regs : Type 0} (m : Meanings D R Regs) (next : ℕ) (loads : List (Option (Loads (Loaded D)))) (caches : List (Option (Sets R))) (v : Loads (Loaded D)) → v.generation ≡ next → IsSound m next loads caches → Joins m (next + 1) loads caches v
joins_new {D} {R} m next loads caches v is s = record {
  older = omega arith;
  mine = all-weaker (λ (u : Loads (Loaded D)). u.generation < next) (AreOneBook v) (λ u h e. absurd (omega arith)) loads s.older;
  theirs = all-weaker (λ (u : Loads (Loaded D)). u.generation < next) (λ u. AreOneBook u v) (λ u h e. absurd (omega arith)) loads s.older;
  fits = all-weaker (KeysBelow next) (Fits (rule_kept m v.modules) v.generation) (λ slots b. new_fits (rule_kept m v.modules) v.generation slots (subst (λ n. KeysBelow n slots) (sym is) b)) caches s.below;
}

-- one like one of the others
pub joins_clone : {D R Regs : Type 0} (m : Meanings D R Regs) (next : ℕ) (loads : List (Option (Loads (Loaded D)))) (caches : List (Option (Sets R))) (i : ℕ) (v : Loads (Loaded D)) → held loads i ≡ Some v → IsSound m next loads caches → Joins m next loads caches v
joins_clone {D} {R} m next loads caches i v is s = record {
  older = all-at (λ (u : Loads (Loaded D)). u.generation < next) loads i v is s.older;
  mine = all-at (λ u. AllHeld (AreOneBook u) loads) loads i v is s.same;
  theirs = all-weaker (λ u. AllHeld (AreOneBook u) loads) (λ u. AreOneBook u v) (λ u a. all-at (AreOneBook u) loads i v is a) loads s.same;
  fits = all-at (λ u. AllHeld (Fits (rule_kept m u.modules) u.generation) caches) loads i v is s.fits;
}

-- it is put behind the others
pub sound_push : {D R Regs : Type 0} (m : Meanings D R Regs) (next : ℕ) (loads : List (Option (Loads (Loaded D)))) (caches : List (Option (Sets R))) (v : Loads (Loaded D)) → Joins m next loads caches v → IsSound m next loads caches → IsSound m next (loads ++ Some v ∷ []) caches
sound_push {D} {R} m next loads caches v j s = record {
  older = all-push (λ (u : Loads (Loaded D)). u.generation < next) loads (Some v) s.older j.older;
  same = all-push (λ u. AllHeld (AreOneBook u) (loads ++ Some v ∷ [])) loads (Some v)
      (all-weaker (λ u. AllHeld (AreOneBook u) loads × AreOneBook u v) (λ u. AllHeld (AreOneBook u) (loads ++ Some v ∷ [])) (λ u p. all-push (AreOneBook u) loads (Some v) p.0 p.1) loads (all-both (λ u. AllHeld (AreOneBook u) loads) (λ u. AreOneBook u v) loads s.same j.theirs))
      (all-push (AreOneBook v) loads (Some v) j.mine (λ e. refl));
  below = s.below;
  fits = all-push (λ u. AllHeld (Fits (rule_kept m u.modules) u.generation) caches) loads (Some v) s.fits j.fits;
}

-- it takes the place of one of the others
pub sound_set : {D R Regs : Type 0} (m : Meanings D R Regs) (next : ℕ) (loads : List (Option (Loads (Loaded D)))) (caches : List (Option (Sets R))) (i : ℕ) (v : Loads (Loaded D)) → Joins m next loads caches v → IsSound m next loads caches → IsSound m next (slice_set loads i (Some v)) caches
sound_set {D} {R} m next loads caches i v j s = record {
  older = all-set (λ (u : Loads (Loaded D)). u.generation < next) loads i (Some v) j.older s.older;
  same = all-set (λ u. AllHeld (AreOneBook u) (slice_set loads i (Some v))) loads i (Some v)
      (all-set (AreOneBook v) loads i (Some v) (λ e. refl) j.mine)
      (all-weaker (λ u. AllHeld (AreOneBook u) loads × AreOneBook u v) (λ u. AllHeld (AreOneBook u) (slice_set loads i (Some v))) (λ u p. all-set (AreOneBook u) loads i (Some v) p.1 p.0) loads (all-both (λ u. AllHeld (AreOneBook u) loads) (λ u. AreOneBook u v) loads s.same j.theirs));
  below = s.below;
  fits = all-set (λ u. AllHeld (Fits (rule_kept m u.modules) u.generation) caches) loads i (Some v) j.fits s.fits;
}

-- an unwinder is let go
pub sound_without : {D R Regs : Type 0} (m : Meanings D R Regs) (next : ℕ) (loads : List (Option (Loads (Loaded D)))) (caches : List (Option (Sets R))) (i : ℕ) → IsSound m next loads caches → IsSound m next (slice_set loads i None) caches
sound_without {D} {R} m next loads caches i s = record {
  older = all-set (λ (u : Loads (Loaded D)). u.generation < next) loads i None tt s.older;
  same = all-set (λ u. AllHeld (AreOneBook u) (slice_set loads i None)) loads i None tt
      (all-weaker (λ u. AllHeld (AreOneBook u) loads) (λ u. AllHeld (AreOneBook u) (slice_set loads i None)) (λ u a. all-set (AreOneBook u) loads i None tt a) loads s.same);
  below = s.below;
  fits = all-set (λ u. AllHeld (Fits (rule_kept m u.modules) u.generation) caches) loads i None tt s.fits;
}

-- a cache is let go
pub sound_without_cache : {D R Regs : Type 0} (m : Meanings D R Regs) (next : ℕ) (loads : List (Option (Loads (Loaded D)))) (caches : List (Option (Sets R))) (j : ℕ) → IsSound m next loads caches → IsSound m next loads (slice_set caches j None)
sound_without_cache {D} {R} m next loads caches j s = record {
  older = s.older;
  same = s.same;
  below = all-set (KeysBelow next) caches j None tt s.below;
  fits = all-weaker (λ u. AllHeld (Fits (rule_kept m u.modules) u.generation) caches) (λ u. AllHeld (Fits (rule_kept m u.modules) u.generation) (slice_set caches j None))
      (λ u a. all-set (Fits (rule_kept m u.modules) u.generation) caches j None tt a) loads s.fits;
}

-- a new cache
pub sound_cache : {D R Regs : Type 0} (layout : Layout) (m : Meanings D R Regs) (next : ℕ) (loads : List (Option (Loads (Loaded D)))) (caches : List (Option (Sets R))) → IsSound m next loads caches → IsSound m next loads (caches ++ Some (empty_sets layout) ∷ [])
sound_cache {D} {R} layout m next loads caches s = record {
  older = s.older;
  same = s.same;
  below = all-push (KeysBelow next) caches (Some (empty_sets layout)) s.below (empty_below next layout);
  fits = all-weaker (λ u. AllHeld (Fits (rule_kept m u.modules) u.generation) caches) (λ u. AllHeld (Fits (rule_kept m u.modules) u.generation) (caches ++ Some (empty_sets layout) ∷ []))
      (λ u a. all-push (Fits (rule_kept m u.modules) u.generation) caches (Some (empty_sets layout)) a (empty_fits (rule_kept m u.modules) u.generation layout)) loads s.fits;
}

-- the slots of a cache after a step of one of the unwinders
pub sound_step : {D R Regs : Type 0} (m : Meanings D R Regs) (next : ℕ) (loads : List (Option (Loads (Loaded D)))) (caches : List (Option (Sets R))) (w : Bool) (i j : ℕ) (u : Loads (Loaded D)) (old : Sets R) (key : Key) (l : Layout)
    → held loads i ≡ Some u → held caches j ≡ Some old → key.generation ≡ u.generation → IsSound m next loads caches
    → IsSound m next loads (slice_set caches j (Some (sets_after w (rule_kept m u.modules) key l old)))
sound_step {D} {R} m next loads caches w i j u old key l h k is s =
    let joins = joins_clone m next loads caches i u h s in
    let new = sets_after w (rule_kept m u.modules) key l old in
    record {
      older = s.older;
      same = s.same;
      below = all-set (KeysBelow next) caches j (Some new) (below_after w (rule_kept m u.modules) key next l old (subst (λ n. n < next) (sym is) joins.older) (all-at (KeysBelow next) caches j old k s.below)) s.below;
      fits = all-weaker (λ v. AllHeld (Fits (rule_kept m v.modules) v.generation) caches × AreOneBook v u) (λ v. AllHeld (Fits (rule_kept m v.modules) v.generation) (slice_set caches j (Some new)))
          (λ v p. all-set (Fits (rule_kept m v.modules) v.generation) caches j (Some new)
          (fits_after w (rule_kept m u.modules) (rule_kept m v.modules) v.generation key l old (λ g. ap (λ ms. rule_kept m ms key) (p.1 (sym g ∙ is))) (all-at (Fits (rule_kept m v.modules) v.generation) caches j old k p.0)) p.0)
          loads (all-both (λ v. AllHeld (Fits (rule_kept m v.modules) v.generation) caches) (λ v. AreOneBook v u) loads s.fits joins.theirs);
    }

pub fits_at : {D R Regs : Type 0} (m : Meanings D R Regs) (next : ℕ) (loads : List (Option (Loads (Loaded D)))) (caches : List (Option (Sets R))) (i j : ℕ) (u : Loads (Loaded D)) (old : Sets R)
    → held loads i ≡ Some u → held caches j ≡ Some old → IsSound m next loads caches → Fits (rule_kept m u.modules) u.generation old
fits_at {D} {R} m next loads caches i j u old h k s =
    all-at (Fits (rule_kept m u.modules) u.generation) caches j old k (all-at (λ v. AllHeld (Fits (rule_kept m v.modules) v.generation) caches) loads i u h s.fits)

-- a load or an unload, refused or not
pub sound_load : {D R Regs E : Type 0} (m : Meanings D R Regs) (next after : ℕ) (loads : List (Option (Loads (Loaded D)))) (caches : List (Option (Sets R))) (i : ℕ) (old new : Loads (Loaded D)) (result : Result (Unit {0}) E)
    → OnOk result (new.generation ≡ next) → OnOk result (after ≡ next + 1) → OnErr result (new ≡ old) → OnErr result (after ≡ next)
    → held loads i ≡ Some old → IsSound m next loads caches → IsSound m after (slice_set loads i (Some new)) caches
sound_load {D} {R} m next after loads caches i old new (Ok done) is taken same untaken h s =
    rw taken (sound_set m (next + 1) loads caches i new (joins_new m next loads caches new is s) (sound_next m next loads caches s))
sound_load {D} {R} m next after loads caches i old new (Err e) is taken same untaken h s =
    rw (untaken, same) (sound_set m next loads caches i old (joins_clone m next loads caches i old h s) s)

-- an unload that finds no module
pub sound_same : {D R Regs : Type 0} (m : Meanings D R Regs) (next after : ℕ) (loads : List (Option (Loads (Loaded D)))) (caches : List (Option (Sets R))) (i : ℕ) (old new : Loads (Loaded D))
    → new ≡ old → after ≡ next → held loads i ≡ Some old → IsSound m next loads caches → IsSound m after (slice_set loads i (Some new)) caches
sound_same {D} {R} m next after loads caches i old new same untaken h s =
    rw (untaken, same) (sound_set m next loads caches i old (joins_clone m next loads caches i old h s) s)

-- an unload, which finds its module or not
pub sound_unload : {D R Regs E : Type 0} (m : Meanings D R Regs) (next after : ℕ) (loads : List (Option (Loads (Loaded D)))) (caches : List (Option (Sets R))) (i : ℕ) (old new : Loads (Loaded D)) (result : Result (Unit {0}) E) (has test : Bool) → has ≡ test
    → (has ≡ false → (result ≡ Ok tt) × (new ≡ old) × (after ≡ next)) → (has ≡ true → OnOk result (new.generation ≡ next)) → (has ≡ true → OnOk result (after ≡ next + 1)) → OnErr result (new ≡ old) → OnErr result (after ≡ next)
    → held loads i ≡ Some old → IsSound m next loads caches → IsSound m after (slice_set loads i (Some new)) caches
sound_unload {D} {R} m next after loads caches i old new result has true is unknown generation taken same untaken h s =
    sound_load m next after loads caches i old new result (generation is) (taken is) same untaken h s
sound_unload {D} {R} m next after loads caches i old new result has false is unknown generation taken same untaken h s =
    let nothing = unknown is in
    sound_same m next after loads caches i old new nothing.1 nothing.2 h s

-- a cache by its parts
pub kept-is : {R : Type 0} (k : Kept R) (layout : Layout) (sets : Sets R) (counts : CacheStats) → k.layout ≡ layout → k.sets ≡ sets → k.counts ≡ counts
    → (let new : Kept R = record { layout = layout; sets = sets; counts = counts } in k ≡ new)
kept-is {R} k layout sets counts o p q =
    let E : Layout → Kept R = λ x. record { layout = x; sets = k.sets; counts = k.counts } in
    let F : Sets R → Kept R = λ x. record { layout = layout; sets = x; counts = k.counts } in
    let G : CacheStats → Kept R = λ x. record { layout = layout; sets = sets; counts = x } in
    ap E o ∙ ap F p ∙ ap G q
