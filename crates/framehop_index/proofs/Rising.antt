-- A list whose keys rise is what a stable sort makes of it turned round.
use Rattle.std.proofs.Common.{◌≡◌, ℕ, zero, suc, ◌+◌, ◌-◌, ◌<◌, ◌≤◌, Bool, true, List, [], ◌∷◌, length, get_or, reverse, nat_cmp, is_lt, refl, sym, ap, ◌∙◌, arith}
use Rattle.std.specs.Prelude.{nat_lt}
use Rattle.std.specs.List.{filter}
use Rattle.std.specs.List.Sorted.{IsNonDecreasingBy, ties}
use Rattle.std.proofs.lemmas.List.Sorted.{IsPermutation-sym, IsPermutation-reverse}
use Rattle.framehop_index.specs.declared.cfi_index.IndexedFde.{IndexedFde}
use Rattle.std.proofs.lemmas.Bool.Decides.{nat_tests}
use Rattle.std.proofs.lemmas.List.{append-nil}
use Rattle.std.proofs.lemmas.List.Elements.{filter-append}
use mathlib.Core.List.{reverse-cons}
use Rattle.list_laws.proofs.Laws.{by_case}
use Rattle.framehop_index.specs.Rising.{IsSortedFromBack, RisesBy}
use Rattle.framehop_index.proofs.CfiIndexOrder.{filter-empty}

module _ {X : Type 0} (key : X → ℕ) where
  -- keys rise if each is above the one before it
  pub rises-by-steps : (xs : List X) → ((k : ℕ) (d : X) → k + 1 < length xs → key (get_or xs k d) < key (get_or xs (k + 1) d)) → RisesBy key xs
  rises-by-steps xs step i j d less within =
      let to : i + suc (j - suc i) ≡ j = omega arith in
      let far = apart (j - suc i) i (omega arith) in
      let same : key (get_or xs (i + suc (j - suc i)) d) ≡ key (get_or xs j d) = ap (λ (k : ℕ). key (get_or xs k d)) to in
      omega arith
    where
      apart : (n i : ℕ) → i + suc n < length xs → key (get_or xs i d) < key (get_or xs (i + suc n) d)
      apart zero i within =
          let next = step i d (omega arith) in
          let same : key (get_or xs (i + 1) d) ≡ key (get_or xs (i + suc zero) d) = ap (λ (k : ℕ). key (get_or xs k d)) (omega arith) in
          omega arith
      apart (suc n) i within =
          let before = apart n i (omega arith) in
          let next = step (i + suc n) d (omega arith) in
          let same : key (get_or xs (i + suc n + 1) d) ≡ key (get_or xs (i + suc (suc n)) d) = ap (λ (k : ℕ). key (get_or xs k d)) (omega arith) in
          omega arith

  pub rising-in-order : (xs : List X) → RisesBy key xs → IsNonDecreasingBy key xs
  rising-in-order xs up i j d le within =
      by_case (nat_lt i j)
      (λ is. let less : i < j = grind (arith, nat_tests) in let lt = up i j d less within in omega arith)
      (λ is. let not : j ≤ i = grind (arith, nat_tests) in let same : i ≡ j = omega arith in let e : key (get_or xs i d) ≡ key (get_or xs j d) = ap (λ (k : ℕ). key (get_or xs k d)) same in omega arith)

  module _ (p : X → Bool) (same : (y z : X) → p y ≡ true → p z ≡ true → key y ≡ key z) where
    no-other : (x : X) (xs : List X) → RisesBy key (x ∷ xs) → p x ≡ true → filter p xs ≡ []
    no-other x xs up is =
        filter-empty p xs
        (λ k d within.
        by_case (p (get_or xs k d))
        (λ yes. let equal = same x (get_or xs k d) is yes in let above = up 0 (suc k) d (omega arith) (omega arith) in absurd (omega arith))
        (λ no. no))

    -- of alike elements there is one at most, so that their order is the same from the back
    pub same-from-the-back : (xs : List X) → RisesBy key xs → filter p xs ≡ filter p (reverse xs)
    same-from-the-back [] up = refl
    same-from-the-back (x ∷ xs) up =
        let others : filter p xs ≡ filter p (reverse xs) = same-from-the-back xs (λ i j d less within. up (suc i) (suc j) d (omega arith) (omega arith)) in
        sym (ap (filter p) (reverse-cons x xs) ∙ filter-append p (reverse xs) (x ∷ [])
        ∙ by_case (p x)
        (λ is. let none : filter p xs ≡ [] = no-other x xs up is in let back : filter p (reverse xs) ≡ [] = sym others ∙ none in rw (is, none, back) refl)
        (λ is. rw is (append-nil (filter p (reverse xs)) ∙ sym others)))

-- ---- an index's FDEs

-- FDEs whose starts rise are sorted
pub sorted-already : (fdes : List IndexedFde) → RisesBy (λ fde. fde.start) fdes → IsSortedFromBack fdes fdes
sorted-already fdes up = record {
  ordered = rising-in-order (λ fde. fde.start) fdes up;
  moved = IsPermutation-sym fdes (reverse fdes) (IsPermutation-reverse fdes);
  stable = λ x. same-from-the-back (λ fde. fde.start) (ties (λ u v. is_lt (nat_cmp u.start v.start)) x)
      (λ y z yes also. (same-start x.start y.start yes) ∙ sym (same-start x.start z.start also)) fdes up;
}
  where
    same-start : (m n : ℕ) → ties (λ x y. is_lt (nat_cmp x y)) m n ≡ true → n ≡ m
    same-start m n h = grind (arith, nat_tests)
