-- Names keep their numbers.
use Rattle.std.proofs.Common.{◌≡◌, ℕ, zero, suc, List, [], ◌∷◌, ◌++◌, inl, inr, Some}
use Rattle.std.specs.Prelude.{slice_get}
use Rattle.folded_stacks.specs.FrameNames.{HasAtMostOneMore}
use Rattle.fold_stacks.specs.Kept.{KeepsNumbers}

in-front : (names others : List (List ℕ)) (number : ℕ) (name : List ℕ) → slice_get names number ≡ Some name → slice_get (names ++ others) number ≡ Some name
in-front [] others number name is = cc
in-front (first ∷ names) others zero name is = is
in-front (first ∷ names) others (suc number) name is = in-front names others number name is

-- names of which one is added at most
pub kept_numbers : (old new : List (List ℕ)) (name : List ℕ) → HasAtMostOneMore old new name → KeepsNumbers old new
kept_numbers old new name (inl same) = λ number known is. rw same is
kept_numbers old new name (inr more) = λ number known is. rw more (in-front old (name ∷ []) number known is)
