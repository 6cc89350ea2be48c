-- A session in which one of the unwinders was read, and put back after a load or an unload.
use Rattle.std.proofs.Common.{◌≡◌, ◌∙◌, ℕ, ◌+◌, List, [], Option, Some, sym, ap}
use Rattle.std.specs.Prelude.{slice_set, Result, Ok, Err, OnOk, OnErr}
use Rattle.framehop_rules.specs.Slots.{Kept}
use Rattle.framehop_unwinder.specs.ByNumber.{held}
use Rattle.framehop_unwinder.specs.Modules.{Loaded, Loads}
use Rattle.framehop_unwinder.specs.State.{SessionState, unwinder_at, loads_with}
use Rattle.framehop_unwinder.proofs.Held.{held-or, set-held}

-- a session of these parts
abbrev pub holding : {D R : Type 0} → List (Option (Loads (Loaded D))) → ℕ → List (Option (Kept R)) → SessionState D R
holding loads next caches = record { unwinders = loads; next = next; caches = caches }

module _ {D R : Type 0} (loads : List (Option (Loads (Loaded D)))) (next : ℕ) (caches : List (Option (Kept R))) (s : SessionState D R) (is : holding loads next caches ≡ s)
    (i : ℕ) (old : Loads (Loaded D)) (read : held loads i ≡ Some old) where
  -- the unwinder that was read is the session's
  pub read-is : old ≡ unwinder_at s.unwinders i
  read-is =
      let none : Loads (Loaded D) = record { modules = []; generation = 0 } in
      sym (held-or loads i old none read) ∙ ap (λ (x : SessionState D R). unwinder_at x.unwinders i) is

  -- an unwinder and a number that didn't change leave the session as it was
  pub put-same : (new : Loads (Loaded D)) (after : ℕ) → new ≡ old → after ≡ next → holding (slice_set loads i (Some new)) after caches ≡ s
  put-same new after same untaken =
      ap (λ (u : Loads (Loaded D)). holding (slice_set loads i (Some u)) after caches) same
      ∙ ap (λ (us : List (Option (Loads (Loaded D)))). holding us after caches) (set-held loads i old read)
      ∙ ap (λ n. holding loads n caches) untaken
      ∙ is

  -- a number that is taken tells the unwinder's modules by
  put-new : (new : Loads (Loaded D)) (after : ℕ) (change : List (Loaded D) → List (Loaded D)) → new.modules ≡ change old.modules → new.generation ≡ next → after ≡ next + 1
      → holding (slice_set loads i (Some new)) after caches ≡ record s { unwinders = slice_set s.unwinders i (Some (loads_with (change (unwinder_at s.unwinders i).modules) s.next)); next = s.next + 1 }
  put-new new after change changed told taken =
      let modules = change (unwinder_at s.unwinders i).modules in
      let made : new ≡ loads_with modules next =
      ap (λ ms. loads_with ms new.generation) (changed ∙ ap (λ (u : Loads (Loaded D)). change u.modules) read-is)
      ∙ ap (loads_with modules) told in
      let put : SessionState D R → SessionState D R = λ x. record x { unwinders = slice_set x.unwinders i (Some (loads_with modules x.next)); next = x.next + 1 } in
      ap (λ (u : Loads (Loaded D)). holding (slice_set loads i (Some u)) after caches) made
      ∙ ap (λ n. holding (slice_set loads i (Some (loads_with modules next))) n caches) taken
      ∙ ap put is

  -- so where a load or an unload is done
  pub put-done : {E : Type 0} (result : Result (Unit {0}) E) (new : Loads (Loaded D)) (after : ℕ) (change : List (Loaded D) → List (Loaded D))
      → OnOk result (new.modules ≡ change old.modules) → OnOk result (new.generation ≡ next) → OnOk result (after ≡ next + 1)
      → OnOk result (holding (slice_set loads i (Some new)) after caches ≡ record s { unwinders = slice_set s.unwinders i (Some (loads_with (change (unwinder_at s.unwinders i).modules) s.next)); next = s.next + 1 })
  put-done (Ok done) new after change changed told taken = put-new new after change changed told taken
  put-done (Err e) new after change changed told taken = tt

  -- and where it is refused
  pub put-refused : {E : Type 0} (result : Result (Unit {0}) E) (new : Loads (Loaded D)) (after : ℕ) → OnErr result (new ≡ old) → OnErr result (after ≡ next)
      → OnErr result (holding (slice_set loads i (Some new)) after caches ≡ s)
  put-refused (Ok done) new after same untaken = tt
  put-refused (Err e) new after same untaken = put-same new after same untaken
