-- Numbers of places, and those in slots.
use Rattle.std.proofs.Common.{◌≡◌, ◌∙◌, ℕ, zero, suc, Bool, true, false, cond, List, [], ◌∷◌, refl, sym, ap, subst, inl, inr, Option, Some, None, arith}
use Rattle.std.specs.Prelude.{◌⊎◌, slice_get, slice_set}
use Rattle.std.proofs.lemmas.Bool.Decides.{nat_tests}
use Rattle.list_laws.proofs.Laws.{by_case}
use Rattle.fold_stacks.specs.Places.{IsInSlot, PutsInSlot, PutsNothing, PutsNumber, SlotsAreOf, is_place, number_among}
use Rattle.fold_stacks.specs.declared.places.NumberedPlace.{NumberedPlace}
use Rattle.fold_stacks.specs.declared.places.PlaceKey.{PlaceKey}

-- ---- places that are the same

same-file : (place other : PlaceKey) → is_place place other ≡ true → place.file ≡ other.file
same-file place other is = grind (arith, nat_tests)

same-address : (place other : PlaceKey) → is_place place other ≡ true → place.address ≡ other.address
same-address place other is = grind (arith, nat_tests)

itself : (place : PlaceKey) → is_place place place ≡ true
itself place = grind (arith, nat_tests)

same : (place other : PlaceKey) → is_place place other ≡ true → place ≡ other
same place other is =
    let file : place.file ≡ other.file = same-file place other is in
    let address : place.address ≡ other.address = same-address place other is in
    ap (λ (f : ℕ). record { file = f; address = place.address }) file ∙ ap (λ (a : ℕ). record { file = other.file; address = a }) address

-- ---- a number that is put

-- what holds of all numbers, and of one that is put, holds of all then
pub put-all : (P : PlaceKey → ℕ → Type 0) (old new : List (PlaceKey × ℕ)) (place : PlaceKey) (number : ℕ) → PutsNumber place number old new → P place number
    → ((other : PlaceKey) (n : ℕ) → number_among old other ≡ Some n → P other n) → (other : PlaceKey) (n : ℕ) → number_among new other ≡ Some n → P other n
put-all P old new place number puts here all other n is =
    by_case (is_place place other)
    (λ yes. let put : cond (is_place place other) (Some number) (number_among old other) ≡ Some n = sym (puts other) ∙ is in
    let number_is : Some number ≡ Some n = rw yes at put in
    let n_is : number ≡ n = cc in
    subst (λ (k : ℕ). P other k) n_is (subst (λ (key : PlaceKey). P key number) (same place other yes) here))
    (λ no. let put : cond (is_place place other) (Some number) (number_among old other) ≡ Some n = sym (puts other) ∙ is in all other n (rw no at put))

-- ---- slots

-- a place that is put with its number
pub slots-put : (numbers : List (PlaceKey × ℕ)) (old new : List (Option NumberedPlace)) (place : NumberedPlace) → SlotsAreOf numbers old → PutsInSlot place old new
    → number_among numbers place.key ≡ Some place.number → SlotsAreOf numbers new
slots-put numbers old new place are puts here slot other is =
    elim (puts slot other is) [ inl put ↦ subst (λ (p : NumberedPlace). number_among numbers p.key ≡ Some p.number) (sym put) here | inr was ↦ are slot other was ]

-- numbers with one more
slots-stay : (old new : List (PlaceKey × ℕ)) (slots : List (Option NumberedPlace)) (place : PlaceKey) (number : ℕ) → number_among old place ≡ None → PutsNumber place number old new
    → SlotsAreOf old slots → SlotsAreOf new slots
slots-stay old new slots place number none puts are slot other is =
    by_case (is_place place other.key)
    (λ yes. let known : number_among old place ≡ Some other.number = ap (λ (key : PlaceKey). number_among old key) (same place other.key yes) ∙ are slot other is in
    let no : None ≡ Some other.number = sym none ∙ known in cc)
    (λ no. puts other.key ∙ rw no (are slot other is))

-- both
pub slots-kept : (old new : List (PlaceKey × ℕ)) (slots started put : List (Option NumberedPlace)) (place : PlaceKey) (number : ℕ) → number_among old place ≡ None
    → PutsNumber place number old new → SlotsAreOf old slots → PutsNothing slots started → PutsInSlot (record { key = place; number = number }) started put
    → SlotsAreOf new put
slots-kept old new slots started put place number none puts are starts puts_slot =
    slots-put new started put (record { key = place; number = number })
    (slots-stay old new started place number none puts (λ slot other is. are slot other (starts slot other is))) puts_slot
    (puts place ∙ rw (itself place) refl)

-- ---- a slot that is set

pub slot-set : (slots : List (Option NumberedPlace)) (index : ℕ) (put : NumberedPlace) → PutsInSlot put slots (slice_set slots index (Some put))
slot-set [] index put slot place is = inr is
slot-set (first ∷ slots) zero put zero place is = inl (cc)
slot-set (first ∷ slots) zero put (suc slot) place is = inr is
slot-set (first ∷ slots) (suc index) put zero place is = inr is
slot-set (first ∷ slots) (suc index) put (suc slot) place is = slot-set slots index put slot place is
