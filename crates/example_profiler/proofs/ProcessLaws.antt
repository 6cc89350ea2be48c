-- The unwinders of a session after one more loads a module, and after one is let go.
use Rattle.std.proofs.Common.{◌≡◌, ◌≢◌, ◌∙◌, ℕ, ◌<◌, List, [], ◌∷◌, ◌++◌, length, Option, Some, None, sym, ap, arith, inl, inr}
use Rattle.std.specs.Prelude.{option_map, unwrap_or, slice_set}
use Rattle.std.proofs.lemmas.Bool.{cases_eq}
use Rattle.std.proofs.lemmas.List.{length-append}
use Rattle.framehop_unwinder.specs.ByNumber.{held}
use Rattle.framehop_unwinder.specs.Modules.{Loaded, Loads, with_loaded}
use Rattle.framehop_unwinder.specs.State.{SessionState, loads_with, modules_at, with_modules, with_unwinder, without_unwinder}
use Rattle.example_profiler.proofs.Held.{held-next, held-added, held-before, held-set, held-removed, held-other}

-- the modules of an unwinder, if it is there
abbrev pub modules : {Data : Type 0} → Option (Loads (Loaded Data)) → Option (List (Loaded Data))
modules unwinder = option_map (λ loads. loads.modules) unwinder

module _ {Data Rule : Type 0} (old new : SessionState Data Rule) (number : ℕ) (is-gone : new ≡ without_unwinder old number) where
  -- an unwinder that is let go isn't there
  pub gone : held new.unwinders number ≡ None
  gone = ap (λ (s : SessionState Data Rule). held s.unwinders number) is-gone ∙ held-removed old.unwinders number

  -- the others are as they were
  pub others-stay : (other : ℕ) → other ≢ number → held new.unwinders other ≡ held old.unwinders other
  others-stay other differ = ap (λ (s : SessionState Data Rule). held s.unwinders other) is-gone ∙ held-other old.unwinders None number other differ

module _ {Data Rule : Type 0} (old added : SessionState Data Rule) (number : ℕ) (is-next : number ≡ length old.unwinders) (is-added : added ≡ with_unwinder old) where
  abbrev bare : Option (Loads (Loaded Data))
  bare = Some (loads_with [] old.next)

  -- the unwinder that is added has no module
  pub is-bare : held added.unwinders number ≡ bare
  is-bare =
      ap (λ (s : SessionState Data Rule). held s.unwinders number) is-added ∙ ap (held (old.unwinders ++ bare ∷ [])) is-next
      ∙ held-added old.unwinders bare

  pub was-none : held old.unwinders number ≡ None
  was-none = ap (held old.unwinders) is-next ∙ held-next old.unwinders

  -- the others are as they were
  pub others-before : (other : ℕ) → other ≢ number → held added.unwinders other ≡ held old.unwinders other
  others-before other differ =
      ap (λ (s : SessionState Data Rule). held s.unwinders other) is-added
      ∙ held-before old.unwinders bare other (λ same. differ (same ∙ sym is-next))

  is-below : number < length added.unwinders
  is-below =
      let sized = ap (λ (s : SessionState Data Rule). length s.unwinders) is-added ∙ length-append old.unwinders (bare ∷ []) in
      omega (arith, sized, is-next)

  -- it loads a module
  pub has-loaded : (new : SessionState Data Rule) (module_ : Loaded Data) → new ≡ with_modules added number (with_loaded module_ (modules_at added number))
      → held new.unwinders number ≡ Some (loads_with (module_ ∷ []) added.next)
  has-loaded new module_ is-loaded =
      ap (λ (s : SessionState Data Rule). held s.unwinders number) is-loaded
      ∙ held-set added.unwinders (Some (loads_with (with_loaded module_ (modules_at added number)) added.next)) number is-below
      ∙ ap (λ (loads : Option (Loads (Loaded Data))).
      Some (loads_with (with_loaded module_ (unwrap_or loads (record { modules = []; generation = 0 })).modules) added.next)) is-bare

  pub others-loaded : (new : SessionState Data Rule) (module_ : Loaded Data) → new ≡ with_modules added number (with_loaded module_ (modules_at added number))
      → (other : ℕ) → other ≢ number → held new.unwinders other ≡ held old.unwinders other
  others-loaded new module_ is-loaded other differ =
      ap (λ (s : SessionState Data Rule). held s.unwinders other) is-loaded
      ∙ held-other added.unwinders (Some (loads_with (with_loaded module_ (modules_at added number)) added.next)) number other differ
      ∙ others-before other differ

  -- it is let go again
  pub as-before : (kept new : SessionState Data Rule) → kept ≡ added → new ≡ without_unwinder kept number
      → (other : ℕ) → held new.unwinders other ≡ held old.unwinders other
  as-before kept new is-kept is-gone other =
      let removed = ap (λ (s : SessionState Data Rule). held s.unwinders other) is-gone
      ∙ ap (λ (s : SessionState Data Rule). held (slice_set s.unwinders number None) other) is-kept in
      elim (cases_eq other number) [
        | inl same ↦ removed ∙ ap (held (slice_set added.unwinders number None)) same ∙ held-removed added.unwinders number
            ∙ sym (ap (held old.unwinders) same ∙ was-none)
        | inr differ ↦ removed ∙ held-other added.unwinders None number other differ ∙ others-before other differ
      ]
