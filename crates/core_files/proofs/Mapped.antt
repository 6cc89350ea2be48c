-- What holds of the elements of a list, and of what a function makes of them.
use Rattle.std.proofs.Common.{ℕ, ◌+◌, ◌<◌, ◌≤◌, List, [], ◌∷◌, length, get_or, map, subst, sym, arith}
use Rattle.std.specs.List.{AllWithin, AllAdjacentBelow}
use Rattle.std.proofs.lemmas.List.{get_or-map}

module _ {X Y : Type 0} (f : X → Y) where
  pub mapped-all : (P : Y → Type 0) (xs : List X) (low high : ℕ) → high ≤ length xs → AllWithin (λ x. P (f x)) xs low high → AllWithin P (map f xs) low high
  mapped-all P [] low high le all k d a b = absurd (omega arith)
  mapped-all P (x ∷ xs) low high le all k d a b = subst P (sym (get_or-map f (x ∷ xs) k x d (omega arith))) (all k x a b)

  pub mapped-adjacent : (R : Y → Y → Type 0) (xs : List X) (n : ℕ) → n ≤ length xs → AllAdjacentBelow (λ x y. R (f x) (f y)) xs n → AllAdjacentBelow R (map f xs) n
  mapped-adjacent R [] n le all k d h = absurd (omega arith)
  mapped-adjacent R (x ∷ xs) n le all k d h =
      subst (λ (z : Y). R z (get_or (map f (x ∷ xs)) (k + 1) d)) (sym (get_or-map f (x ∷ xs) k x d (omega arith)))
      (subst (λ (z : Y). R (f (get_or (x ∷ xs) k x)) z) (sym (get_or-map f (x ∷ xs) (k + 1) x d (omega arith))) (all k x h))

  pub mapped-back : (R : Y → Y → Type 0) (xs : List X) (n k : ℕ) (d : X) → n ≤ length xs → AllAdjacentBelow R (map f xs) n → k + 1 < n → R (f (get_or xs k d)) (f (get_or xs (k + 1) d))
  mapped-back R xs n k d le all h =
      subst (λ (z : Y). R z (f (get_or xs (k + 1) d))) (get_or-map f xs k d (f d) (omega arith))
      (subst (λ (z : Y). R (get_or (map f xs) k (f d)) z) (get_or-map f xs (k + 1) d (f d) (omega arith)) (all k (f d) h))
