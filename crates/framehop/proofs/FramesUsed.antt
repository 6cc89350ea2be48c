-- Which of two sections of call frames is used.
use Rattle.std.proofs.Common.{◌≡◌, ℕ, Bool, true, false, Option, Some, refl, ap, ◌∙◌, inl, inr, ◌⊎◌}
use Rattle.std.specs.Prelude.{not, ◌&&◌, if◌then◌else◌}
use Rattle.framehop_index.specs.FdeLookups.{PlacedFrames, covers}
use Rattle.framehop_loads.specs.CallFrames.{CallFrames, frames_for, frames_of, frames_used}

choice-other : (main other : Bool) (one two : PlacedFrames) → main ≡ false → other ≡ true → (if not main && other then two else one) ≡ two
choice-other main other one two away here = rw (away, here) refl

choice-main : (main other : Bool) (one two : PlacedFrames) → (main ≡ true) ⊎ (other ≡ false) → (if not main && other then two else one) ≡ one
choice-main true other one two h = refl
choice-main false false one two h = refl
choice-main false true one two (inl h) = cc
choice-main false true one two (inr h) = cc

module _ (main beside : PlacedFrames) (relative : ℕ) where
  pub used-other : covers main relative ≡ false → covers beside relative ≡ true → frames_for main beside relative ≡ beside
  used-other = choice-other (covers main relative) (covers beside relative) main beside

  pub used-main : (covers main relative ≡ true) ⊎ (covers beside relative ≡ false) → frames_for main beside relative ≡ main
  used-main = choice-main (covers main relative) (covers beside relative) main beside
