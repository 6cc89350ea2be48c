-- Lists without repetitions that have the same members are permutations of each other.
use Rattle.std.proofs.Common.{◌≡◌, zero, suc, List, [], ◌∷◌, ◌++◌, refl, sym, ap, subst, arith, inl, inr}
use Rattle.std.specs.Prelude.{◌⊎◌}
use Rattle.std.specs.List.{All, Contains}
use Rattle.std.specs.List.Sorted.{IsPermutation}
use Rattle.std.proofs.lemmas.List.Elements.{All-cons, All-head, All-tail, All-contains, Contains-append_cases, Contains-append_left, Contains-append_right}
use Rattle.std.proofs.lemmas.List.Sorted.{IsPermutation-cons, IsPermutation-middle, IsPermutation-refl, IsPermutation-sym, IsPermutation-trans}

module _ {X : Type 0} where
  -- a member is the first, or among the others
  pub member-cases : (x : X) (xs : List X) (y : X) → Contains (x ∷ xs) y → (x ≡ y) ⊎ Contains xs y
  member-cases x xs y (zero, h, is) = inl is
  member-cases x xs y (suc k, h, is) = inr (k, omega arith, is)

  pub first-member : (x : X) (xs : List X) → Contains (x ∷ xs) x
  first-member x xs = (zero, omega arith, refl)

  pub later-member : (x : X) (xs : List X) (y : X) → Contains xs y → Contains (x ∷ xs) y
  later-member x xs y (k, h, is) = (suc k, omega arith, is)

  no-member : (y : X) → Contains [] y → ⊥
  no-member y (k, h, is) = omega arith

  -- x isn't in a list
  abbrev pub Apart : X → List X → Type 0
  Apart x xs = All (λ y. x ≡ y → ⊥) xs

  -- no member is repeated
  abbrev pub Distinct : List X → Type 0
  Distinct [] = Unit {0}
  Distinct (x ∷ xs) = Apart x xs × Distinct xs

  -- a list around a member
  record Around (x : X) (xs : List X) : Type 0 where
    before : List X
    after : List X
    is : xs ≡ before ++ x ∷ after

  around : (x : X) (xs : List X) → Contains xs x → Around x xs
  around x [] has = absurd (no-member x has)
  around x (y ∷ ys) has = elim (member-cases y ys x has) [
    | inl same ↦ record { before = []; after = ys; is = ap (λ (z : X). z ∷ ys) same }
    | inr more ↦ (let others = around x ys more in record { before = y ∷ others.before; after = others.after; is = ap (λ (zs : List X). y ∷ zs) others.is })
  ]

  all-around : (P : X → Type 0) (us : List X) (x : X) (vs : List X) → All P (us ++ x ∷ vs) → P x × All P (us ++ vs)
  all-around P [] x vs all = (All-head P x vs all, All-tail P x vs all)
  all-around P (u ∷ us) x vs all =
      let others = all-around P us x vs (All-tail P u (us ++ x ∷ vs) all) in
      (others.0, All-cons P u (us ++ vs) (All-head P u (us ++ x ∷ vs) all) others.1)

  distinct-around : (us : List X) (x : X) (vs : List X) → Distinct (us ++ x ∷ vs) → Apart x (us ++ vs) × Distinct (us ++ vs)
  distinct-around [] x vs h = h
  distinct-around (u ∷ us) x vs h =
      let first = all-around (λ y. u ≡ y → ⊥) us x vs h.0 in
      let others = distinct-around us x vs h.1 in
      (All-cons (λ y. x ≡ y → ⊥) u (us ++ vs) (λ is. first.0 (sym is)) others.0, (first.1, others.1))

  -- the members around one are the others
  member-around : (us : List X) (x : X) (vs : List X) (y : X) → Contains (us ++ vs) y → Contains (us ++ x ∷ vs) y
  member-around us x vs y has = elim (Contains-append_cases us vs y has) [
    | inl left ↦ Contains-append_left us (x ∷ vs) y left
    | inr right ↦ Contains-append_right us (x ∷ vs) y (later-member x vs y right)
  ]

  other-around : (us : List X) (x : X) (vs : List X) (y : X) → (x ≡ y → ⊥) → Contains (us ++ x ∷ vs) y → Contains (us ++ vs) y
  other-around us x vs y apart has = elim (Contains-append_cases us (x ∷ vs) y has) [
    | inl left ↦ Contains-append_left us vs y left
    | inr right ↦ elim (member-cases x vs y right) [
      | inl same ↦ absurd (apart same)
      | inr more ↦ Contains-append_right us vs y more
    ]
  ]

  -- the same members
  pub record SameMembers (xs ys : List X) : Type 0 where
    pub there : (y : X) → Contains xs y → Contains ys y
    pub back : (y : X) → Contains ys y → Contains xs y

  pub same-members : (xs ys : List X) → Distinct xs → Distinct ys → SameMembers xs ys → IsPermutation xs ys
  same-members [] [] one other same = IsPermutation-refl []
  same-members [] (y ∷ ys) one other same = absurd (no-member y (same.back y (first-member y ys)))
  same-members (x ∷ xs) ys one other same =
      let here = around x ys (same.there x (first-member x xs)) in
      let apart = distinct-around here.before x here.after (subst Distinct here.is other) in
      let others : SameMembers xs (here.before ++ here.after) = record {
        there = λ y has.
            other-around here.before x here.after y (All-contains (λ y. x ≡ y → ⊥) xs y one.0 has)
            (subst (λ (l : List X). Contains l y) here.is (same.there y (later-member x xs y has)));
        back = λ y has.
            elim (member-cases x xs y (same.back y (subst (λ (l : List X). Contains l y) (sym here.is) (member-around here.before x here.after y has)))) [
              | inl is ↦ absurd (All-contains (λ y. x ≡ y → ⊥) (here.before ++ here.after) y apart.0 has is)
              | inr more ↦ more
            ];
      } in
      let rest = same-members xs (here.before ++ here.after) one.1 apart.1 others in
      let front = IsPermutation-cons x xs (here.before ++ here.after) rest in
      let back = IsPermutation-sym (here.before ++ x ∷ here.after) (x ∷ (here.before ++ here.after)) (IsPermutation-middle here.before x here.after) in
      subst (λ (l : List X). IsPermutation (x ∷ xs) l) (sym here.is) (IsPermutation-trans (x ∷ xs) (x ∷ (here.before ++ here.after)) (here.before ++ x ∷ here.after) front back)
