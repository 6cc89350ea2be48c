-- Lists by their elements.
use Rattle.std.proofs.Common.{◌≡◌, ℕ, suc, ◌+◌, ◌<◌, List, [], ◌∷◌, length, get_or, refl, ap, ◌∙◌, arith}
use Rattle.core_files.specs.Bytes.{each_from}

-- a list of which each element is what a function gives for its place
pub each-is : {A : Type 0} (f : ℕ → A) (xs : List A) (first : ℕ) (d : A) → ((k : ℕ) → k < length xs → get_or xs k d ≡ f (first + k)) → xs ≡ each_from f first (length xs)
unfolding each_from
each-is f [] first d known = refl
each-is f (x ∷ xs) first d known =
    let head : x ≡ f first = known 0 (omega arith) ∙ ap f (omega arith) in
    let tail : xs ≡ each_from f (first + 1) (length xs) = each-is f xs (first + 1) d (λ k h. known (suc k) (omega arith) ∙ ap f (omega arith)) in
    cc
