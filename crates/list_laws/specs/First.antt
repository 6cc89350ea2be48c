-- The first of a list that has a value.
use Rattle.std.specs.Prelude.{List, [], ◌∷◌, Option, None}
use Rattle.std.specs.Option.{option_or}

-- the first value that a function gives for an element of a list, if it gives one
abbrev pub first_value : {A B : Type 0} → (A → Option B) → List A → Option B
first_value value [] = None
first_value value (x ∷ xs) = option_or (value x) (first_value value xs)

-- the first that there is
abbrev pub first_some : {A : Type 0} → List (Option A) → Option A
first_some [] = None
first_some (x ∷ xs) = option_or x (first_some xs)
