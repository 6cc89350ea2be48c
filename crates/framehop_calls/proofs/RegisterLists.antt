-- A list from what is at its places.
use Rattle.std.proofs.Common.{◌≡◌, ℕ, zero, suc, List, [], ◌∷◌, length, get_or, refl, ap, arith}

-- what a function gives for each number below one, in order
abbrev pub places : ℕ → (ℕ → ℕ) → List ℕ
places zero f = []
places (suc n) f = f 0 ∷ places n (λ i. f (suc i))

-- a list has what is at its places
pub all_places : (n : ℕ) (xs : List ℕ) → length xs ≡ n → places n (λ i. get_or xs i 0) ≡ xs
all_places zero [] e = refl
all_places zero (x ∷ xs) e = absurd (omega (arith, e))
all_places (suc n) [] e = absurd (omega (arith, e))
all_places (suc n) (x ∷ xs) e = ap (λ ys. x ∷ ys) (all_places n xs (omega (arith, e)))
