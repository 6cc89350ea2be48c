-- The last of a sorted list at or below an address, and the list that it was sorted from.
use Rattle.std.proofs.Common.{◌≡◌, ℕ, zero, suc, ◌<◌, ◌≤◌, Bool, true, false, List, [], ◌∷◌, length, get_or, reverse, Some, None, refl, ap, subst, ◌∙◌, arith}
use Rattle.std.specs.Prelude.{nat_le}
use Rattle.std.specs.List.{All, filter, find}
use Rattle.std.specs.List.Sorted.{IsNonDecreasingBy}
use Rattle.std.proofs.lemmas.List.{append-nil}
use Rattle.std.proofs.lemmas.List.Elements.{filter-append, All-nil, All-cons, All-head, All-tail, All-weaker}
use mathlib.Core.List.{reverse-cons}
use Rattle.list_laws.specs.Last.{last_of}
use Rattle.list_laws.proofs.Laws.{by_case, last_of-push, last_of-cons, last_of-none}

-- the last stands behind the first, or the list has the first alone
either : {X P : Type 0} (y : X) (xs : List X) (x : X) → last_of (y ∷ xs) ≡ Some x → (last_of xs ≡ Some x → P) → (xs ≡ [] → y ≡ x → P) → P
either y [] x h others alone = alone refl cc
either y (z ∷ zs) x h others alone = others h

module _ {X : Type 0} (q : X → Bool) where
  -- where none passes, the filter is empty
  pub filter-empty : (xs : List X) → ((k : ℕ) (d : X) → k < length xs → q (get_or xs k d) ≡ false) → filter q xs ≡ []
  filter-empty [] fails = refl
  filter-empty (x ∷ xs) fails = rw (fails 0 x (omega arith)) (filter-empty xs (λ k d h. fails (suc k) d (omega arith)))

  -- none is the last of what passes, where none passes
  pub last-none : (xs : List X) → ((k : ℕ) (d : X) → k < length xs → q (get_or xs k d) ≡ false) → last_of (filter q xs) ≡ None
  last-none xs fails = ap last_of (filter-empty xs fails)

  -- where the first i + 1 pass and no other, the last of them is at i
  pub last-at : (xs : List X) (i : ℕ) (d : X) → i < length xs → ((k : ℕ) (d : X) → k < suc i → q (get_or xs k d) ≡ true)
      → ((k : ℕ) (d : X) → suc i ≤ k → k < length xs → q (get_or xs k d) ≡ false) → last_of (filter q xs) ≡ Some (get_or xs i d)
  last-at [] i d within passes fails = absurd (omega arith)
  last-at (x ∷ xs) zero d within passes fails =
      let others : filter q xs ≡ [] = filter-empty xs (λ k d h. fails (suc k) d (omega arith) (omega arith)) in
      rw (passes 0 x (omega arith), others) refl
  last-at (x ∷ xs) (suc i) d within passes fails =
      rw (passes 0 x (omega arith))
      (last_of-cons x (get_or xs i d) (filter q xs) (last-at xs i d (omega arith) (λ k d h. passes (suc k) d (omega arith)) (λ k d h l. fails (suc k) d (omega arith) (omega arith))))

  -- where nothing is the last of what passes, nothing passes
  pub none-passes : (xs : List X) → last_of (filter q xs) ≡ None → All (λ x. q x ≡ false) xs
  none-passes [] h = All-nil (λ x. q x ≡ false)
  none-passes (x ∷ xs) h =
      by_case (q x)
      (λ is. let e : x ∷ filter q xs ≡ [] = last_of-none (x ∷ filter q xs) (rw is at h) in cc)
      (λ is. All-cons (λ x. q x ≡ false) x xs is (none-passes xs (rw is at h)))

  -- the last of what passes has what all have
  last-has : (P : X → Type 0) (xs : List X) (x : X) → All P xs → last_of (filter q xs) ≡ Some x → P x
  last-has P [] x all h = cc
  last-has P (y ∷ ys) x all h =
      by_case (q y)
      (λ is. either y (filter q ys) x (rw is at h) (last-has P ys x (All-tail P y ys all)) (λ _ it. subst P it (All-head P y ys all)))
      (λ is. last-has P ys x (All-tail P y ys all) (rw is at h))

  -- the last of what passes passes
  pub last-passes : (xs : List X) (x : X) → last_of (filter q xs) ≡ Some x → q x ≡ true
  last-passes [] x h = cc
  last-passes (y ∷ ys) x h =
      by_case (q y)
      (λ is. either y (filter q ys) x (rw is at h) (last-passes ys x) (λ _ it. rw (← it) is))
      (λ is. last-passes ys x (rw is at h))

-- the first that passes is the last from the back
pub find-back : {X : Type 0} (p : X → Bool) (xs : List X) → last_of (filter p (reverse xs)) ≡ find p xs
find-back p [] = refl
find-back p (x ∷ xs) =
    ap (λ l. last_of (filter p l)) (reverse-cons x xs) ∙ ap last_of (filter-append p (reverse xs) (x ∷ []))
    ∙ by_case (p x)
    (λ is. rw is (last_of-push (filter p (reverse xs)) x))
    (λ is. rw is (ap last_of (append-nil (filter p (reverse xs))) ∙ find-back p xs))

module _ {X : Type 0} (n : X → ℕ) (a : ℕ) where
  first-lowest : (y : X) (ys : List X) → IsNonDecreasingBy n (y ∷ ys) → All (λ z. n y ≤ n z) ys
  first-lowest y ys up k d lt = up 0 (suc k) d (omega arith) (omega arith)

  tail-sorted : (y : X) (ys : List X) → IsNonDecreasingBy n (y ∷ ys) → IsNonDecreasingBy n ys
  tail-sorted y ys up i j d le lt = up (suc i) (suc j) d (omega arith) (omega arith)

  -- none at or below the address is above the last of them
  pub none-higher : (ys : List X) (x : X) → IsNonDecreasingBy n ys → last_of (filter (λ y. nat_le (n y) a) ys) ≡ Some x → All (λ y. nat_le (n y) a ≡ true → n y ≤ n x) ys
  none-higher [] x up h = All-nil (λ y. nat_le (n y) a ≡ true → n y ≤ n x)
  none-higher (y ∷ ys) x up h =
      by_case (nat_le (n y) a)
      (λ is. either y (filter (λ y. nat_le (n y) a) ys) x (rw is at h)
      (λ last. All-cons (λ y. nat_le (n y) a ≡ true → n y ≤ n x) y ys (λ _. last-has (λ y. nat_le (n y) a) (λ z. n y ≤ n z) ys x (first-lowest y ys up) last) (none-higher ys x (tail-sorted y ys up) last))
      (λ none it. All-cons (λ y. nat_le (n y) a ≡ true → n y ≤ n x) y ys (λ _. rw it (omega arith))
      (All-weaker (λ z. nat_le (n z) a ≡ false) (λ z. nat_le (n z) a ≡ true → n z ≤ n x) (λ z fails passes. absurd cc) ys (none-passes (λ y. nat_le (n y) a) ys (ap last_of none)))))
      (λ is. All-cons (λ y. nat_le (n y) a ≡ true → n y ≤ n x) y ys (λ passes. absurd cc) (none-higher ys x (tail-sorted y ys up) (rw is at h)))

  -- the last at or below the address is the last with its number
  pub last-alike : (p : X → Bool) (ys : List X) (x : X) → ((y : X) → p y ≡ true → n y ≡ n x) → p x ≡ true → IsNonDecreasingBy n ys
      → last_of (filter (λ y. nat_le (n y) a) ys) ≡ Some x → last_of (filter p ys) ≡ Some x
  last-alike p [] x only self up h = cc
  last-alike p (y ∷ ys) x only self up h =
      by_case (nat_le (n y) a)
      (λ is. either y (filter (λ y. nat_le (n y) a) ys) x (rw is at h)
      (λ last. more (last-alike p ys x only self (tail-sorted y ys up) last))
      (λ none it. alone it (none-passes (λ y. nat_le (n y) a) ys (ap last_of none)) (rw (← it) (grind arith))))
      (λ is. more (last-alike p ys x only self (tail-sorted y ys up) (rw is at h)))
    where
      more : last_of (filter p ys) ≡ Some x → last_of (filter p (y ∷ ys)) ≡ Some x
      more e = by_case (p y) (λ is. rw is (last_of-cons y x (filter p ys) e)) (λ is. rw is e)

      alone : y ≡ x → All (λ z. nat_le (n z) a ≡ false) ys → n x ≤ a → last_of (filter p (y ∷ ys)) ≡ Some x
      alone it none low =
          let others : filter p ys ≡ [] = filter-empty p ys (λ k d lt. by_case (p (get_or ys k d)) (λ yes. let number = only (get_or ys k d) yes in let fails = none k d lt in absurd (grind arith)) (λ no. no)) in
          let passes : p y ≡ true = rw it self in
          rw (passes, others) (ap (λ z. Some z) it)
