-- What is known is kept.
use Rattle.std.specs.Prelude.{◌≡◌, ℕ, List, slice_get, Option, Some}

-- What is known stays so.
abbrev pub StaysKnown : {A : Type 0} → Option A → Option A → Type 0
StaysKnown {A} old new = (known : A) → old ≡ Some known → new ≡ Some known

-- A name that has a number keeps it.
abbrev pub KeepsNumbers : List (List ℕ) → List (List ℕ) → Type 0
KeepsNumbers old new = (number : ℕ) → StaysKnown (slice_get old number) (slice_get new number)
