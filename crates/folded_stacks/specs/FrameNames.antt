-- The names of frames and processes, each with a number: their place in a list.
use Rattle.std.specs.Prelude.{ℕ, ◌≡◌, ◌++◌, ◌⊎◌, List, [], ◌∷◌, slice_get, unwrap_or}

-- the name with a number, and no bytes if there is none
abbrev pub name_at : List (List ℕ) → ℕ → List ℕ
name_at names number = unwrap_or (slice_get names number) []

-- names are as they were, or have one more, the last
abbrev pub HasAtMostOneMore : List (List ℕ) → List (List ℕ) → List ℕ → Type 0
HasAtMostOneMore old new name = (new ≡ old) ⊎ (new ≡ old ++ name ∷ [])
