-- Filters of filters and of maps, and the last of a map.
use Rattle.std.proofs.Common.{◌≡◌, ℕ, Bool, true, false, List, [], ◌∷◌, map, refl, sym, Some, None, zero, suc, ◌<◌, ◌≤◌, length, drop, get_or, arith}
use Rattle.std.specs.Prelude.{◌&&◌}
use Rattle.std.specs.List.{filter}
use Rattle.std.specs.Option.{option_map}
use Rattle.list_laws.specs.Last.{last_of}
use Rattle.list_laws.proofs.Laws.{by_case, last_of-cons}

module _ {A : Type 0} where
  pub filter-twice : (p q r : A → Bool) → ((x : A) → (q x && p x) ≡ r x) → (xs : List A) → filter p (filter q xs) ≡ filter r xs
  filter-twice p q r same [] = refl
  filter-twice p q r same (x ∷ xs) =
      by_case (q x)
      (λ kept. by_case (p x)
      (λ passes. let is : r x ≡ true = let e = same x in sym (rw (kept, passes) at e) in rw (kept, passes, filter-twice p q r same xs, is) refl)
      (λ fails. let is : r x ≡ false = let e = same x in sym (rw (kept, fails) at e) in rw (kept, fails, filter-twice p q r same xs, is) refl))
      (λ dropped. let is : r x ≡ false = let e = same x in sym (rw dropped at e) in rw (dropped, filter-twice p q r same xs, is) refl)

  pub filter-none : (p : A → Bool) → ((x : A) → p x ≡ false) → (xs : List A) → filter p xs ≡ []
  filter-none p none [] = refl
  filter-none p none (x ∷ xs) = rw (none x) (filter-none p none xs)

  pub filter-all : (p : A → Bool) → ((x : A) → p x ≡ true) → (xs : List A) → filter p xs ≡ xs
  filter-all p all [] = refl
  filter-all p all (x ∷ xs) = rw (all x, filter-all p all xs) refl

  pub filter-mapped : {B : Type 0} (f : A → B) (p : B → Bool) (xs : List A) → filter p (map f xs) ≡ map f (filter (λ x. p (f x)) xs)
  filter-mapped f p [] = refl
  filter-mapped f p (x ∷ xs) = by_case (p (f x)) (λ is. rw (is, filter-mapped f p xs) refl) (λ is. rw (is, filter-mapped f p xs) refl)

  pub last_of-map : {B : Type 0} (f : A → B) (xs : List A) → last_of (map f xs) ≡ option_map f (last_of xs)
  last_of-map f [] = refl
  last_of-map f (x ∷ []) = refl
  last_of-map f (x ∷ y ∷ xs) = last_of-map f (y ∷ xs)

  -- the last that passes, found from the end on
  pub last-passing : (p : A → Bool) (xs : List A) (i : ℕ) (d : A) → i < length xs → filter p (drop (suc i) xs) ≡ [] → p (get_or xs i d) ≡ true → last_of (filter p xs) ≡ Some (get_or xs i d)
  last-passing p [] i d within none passes = absurd (omega arith)
  last-passing p (x ∷ xs) zero d within none passes = rw (passes, none) refl
  last-passing p (x ∷ xs) (suc i) d within none passes =
      let later : last_of (filter p xs) ≡ Some (get_or xs i d) = last-passing p xs i d (omega arith) none passes in
      by_case (p x) (λ is. rw is (last_of-cons x (get_or xs i d) (filter p xs) later)) (λ is. rw is later)

  -- one that doesn't pass, before others
  pub none-from : (p : A → Bool) (xs : List A) (i : ℕ) (d : A) → i < length xs → filter p (drop (suc i) xs) ≡ [] → p (get_or xs i d) ≡ false → filter p (drop i xs) ≡ []
  none-from p [] i d within none fails = absurd (omega arith)
  none-from p (x ∷ xs) zero d within none fails = rw (fails, none) refl
  none-from p (x ∷ xs) (suc i) d within none fails = none-from p xs i d (omega arith) none fails

  -- the same by the place after it, and none at the front
  pub passing-before : (p : A → Bool) (xs : List A) (left i : ℕ) (d : A) → left ≡ suc i → left ≤ length xs → filter p (drop left xs) ≡ [] → p (get_or xs i d) ≡ true
      → last_of (filter p xs) ≡ Some (get_or xs i d)
  passing-before p xs left i d is within none passes = last-passing p xs i d (omega arith) (rw is at none) passes

  pub none-passing : (p : A → Bool) (xs : List A) (left : ℕ) → left ≡ 0 → filter p (drop left xs) ≡ [] → last_of (filter p xs) ≡ None
  none-passing p xs left is none = let all : filter p xs ≡ [] = rw is at none in rw all refl
