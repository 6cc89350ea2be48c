-- Laws of lists. Each is the contract of a function of the crate.
use Rattle.std.proofs.Common.{◌≡◌, ℕ, zero, suc, ◌<◌, ◌≤◌, Bool, true, false, List, [], ◌∷◌, ◌++◌, length, get_or, Option, Some, None, Result, Ok, Err, refl, sym, ap, subst, ◌∙◌, arith}
use Rattle.std.specs.Prelude.{nat_lt, nat_le, ◌&&◌}
use Rattle.std.specs.List.{filter, find, list_all}
use Rattle.std.specs.List.Sorted.{IsNonDecreasingBy}
use Rattle.list_laws.specs.Greatest.{is_greatest, first_greatest, last_greatest, greater, greater_of}
use Rattle.list_laws.specs.Items.{Answer, items_from, items_within, items_of, rest_from, rest_within, rest_of, Shrinks, GivesNext, LeavesNone, step_taken}
use Rattle.list_laws.specs.Last.{last_of}
pub use Rattle.list_laws.proofs.Halves.{at-most-none, at-least-none, at-most-half, at-least-half, enough-none-left, enough-one-left}

-- ---- cases

-- either side of a test
pub by_case : {P : Type 0} (b : Bool) → (b ≡ true → P) → (b ≡ false → P) → P
by_case true passes fails = passes refl
by_case false passes fails = fails refl

-- what may be there, or isn't
pub by_option : {A P : Type 0} (o : Option A) → ((x : A) → o ≡ Some x → P) → (o ≡ None → P) → P
by_option (Some x) some none = some x refl
by_option None some none = none refl

-- ---- the last

-- the last of a list with one more at its end
pub last_of-push : {A : Type 0} (xs : List A) (y : A) → last_of (xs ++ y ∷ []) ≡ Some y
last_of-push [] y = refl
last_of-push (x ∷ []) y = refl
last_of-push (x ∷ z ∷ xs) y = last_of-push (z ∷ xs) y

-- the last stays the last where another goes to the front
pub last_of-cons : {A : Type 0} (x y : A) (xs : List A) → last_of xs ≡ Some y → last_of (x ∷ xs) ≡ Some y
last_of-cons x y [] h = cc
last_of-cons x y (z ∷ zs) h = h

-- a list without a last is empty
pub last_of-none : {A : Type 0} (xs : List A) → last_of xs ≡ None → xs ≡ []
last_of-none [] h = refl
last_of-none (x ∷ []) h = cc
last_of-none (x ∷ y ∷ ys) h = let e : y ∷ ys ≡ [] = last_of-none (y ∷ ys) h in cc

-- the last of a list stands at its last place
pub last_of-at : {A : Type 0} (xs : List A) (i : ℕ) (d : A) → length xs ≡ suc i → last_of xs ≡ Some (get_or xs i d)
last_of-at [] i d len = absurd (omega arith)
last_of-at (x ∷ []) zero d len = refl
last_of-at (x ∷ []) (suc i) d len = absurd (omega arith)
last_of-at (x ∷ y ∷ ys) zero d len = absurd (omega arith)
last_of-at (x ∷ y ∷ ys) (suc i) d len = last_of-at (y ∷ ys) i d (omega arith)

-- the last of a list, where it passes a test, is the last of those that pass
last_of-filter : {A : Type 0} (p : A → Bool) (xs : List A) (y : A) → last_of xs ≡ Some y → p y ≡ true → last_of (filter p xs) ≡ Some y
last_of-filter p [] y h passes = cc
last_of-filter p (x ∷ []) y h passes = let same : x ≡ y = cc in let here : p x ≡ true = rw same passes in rw here h
last_of-filter p (x ∷ z ∷ zs) y h passes =
    let others = last_of-filter p (z ∷ zs) y h passes in
    by_case (p x) (λ is. rw is (last_of-cons x y (filter p (z ∷ zs)) others)) (λ is. rw is others)

-- ---- the greatest

module _ {A : Type 0} (key : A → ℕ) where
  both : (a b : Bool) → (a && b) ≡ true → (a ≡ true) × (b ≡ true)
  both true b h = (refl, h)
  both false b h = cc

  -- what is found passes whatever all pass
  find-passes : (p q : A → Bool) (xs : List A) (g : A) → find p xs ≡ Some g → list_all q xs ≡ true → q g ≡ true
  find-passes p q [] g found all = cc
  find-passes p q (x ∷ xs) g found all =
      let (here, others) = both (q x) (list_all q xs) all in
      by_case (p x)
      (λ is. let e : Some x ≡ Some g = rw is at found in let same : x ≡ g = cc in let P : A → Type 0 = λ y. q y ≡ true in subst P same here)
      (λ is. find-passes p q xs g (rw is at found) others)

  -- what is found by one test is found by both, where the second follows
  find-both : (p q : A → Bool) (xs : List A) (g : A) → ((x : A) → p x ≡ true → q x ≡ true) → find p xs ≡ Some g → find (λ x. q x && p x) xs ≡ Some g
  find-both p q [] g follows found = cc
  find-both p q (x ∷ xs) g follows found =
      by_case (p x)
      (λ is. rw (follows x is, is) (rw is at found))
      (λ is. let fails : (q x && p x) ≡ false = neither (q x) (p x) is in rw fails (find-both p q xs g follows (rw is at found)))
    where
      neither : (a b : Bool) → b ≡ false → (a && b) ≡ false
      neither true b h = h
      neither false b h = refl

  -- what has a key at or below one has it at or below a greater one
  all-below : (a b : ℕ) (xs : List A) → a ≤ b → list_all (λ other. nat_le (key other) a) xs ≡ true → list_all (λ other. nat_le (key other) b) xs ≡ true
  all-below a b [] h all = refl
  all-below a b (x ∷ xs) h all =
      let (here, others) = both (nat_le (key x) a) (list_all (λ other. nat_le (key other) a) xs) all in
      let low : nat_le (key x) b ≡ true = grind arith in
      rw low (all-below a b xs h others)

  -- one more element at the front
  step : (f g : A) (ys : List A) → first_greatest key ys ≡ Some g → is_greatest key ys g ≡ true
      → (first_greatest key (f ∷ ys) ≡ Some (greater key f g)) × (is_greatest key (f ∷ ys) (greater key f g) ≡ true)
  step f g ys found last =
      let self : nat_le (key f) (key f) ≡ true = grind arith in
      by_case (nat_lt (key f) (key g))
      (λ is.
      let below : nat_le (key f) (key g) ≡ true = grind arith in
      let others : list_all (λ other. nat_le (key other) (key f)) ys ≡ false =
      by_case (list_all (λ other. nat_le (key other) (key f)) ys)
      (λ all. let above = find-passes (is_greatest key ys) (λ other. nat_le (key other) (key f)) ys g found all in absurd (grind arith))
      (λ none. none) in
      let follows : (x : A) → is_greatest key ys x ≡ true → nat_le (key f) (key x) ≡ true
      = λ x all. let above = find-passes (is_greatest key ys) (λ other. nat_le (key other) (key x)) ys g found all in grind arith in
      (rw (self, others, is) (find-both (is_greatest key ys) (λ x. nat_le (key f) (key x)) ys g follows found), chosen is (rw below last)))
      (λ is.
      let low : key g ≤ key f = grind arith in
      let others = all-below (key g) (key f) ys low last in
      (rw (self, others, is) refl, spared is (rw self others)))
    where
      chosen : nat_lt (key f) (key g) ≡ true → is_greatest key (f ∷ ys) g ≡ true → is_greatest key (f ∷ ys) (greater key f g) ≡ true
      chosen is h = let e : greater key f g ≡ g = rw is refl in let P : A → Type 0 = λ y. is_greatest key (f ∷ ys) y ≡ true in subst P (sym e) h

      spared : nat_lt (key f) (key g) ≡ false → is_greatest key (f ∷ ys) f ≡ true → is_greatest key (f ∷ ys) (greater key f g) ≡ true
      spared is h = let e : greater key f g ≡ f = rw is refl in let P : A → Type 0 = λ y. is_greatest key (f ∷ ys) y ≡ true in subst P (sym e) h

  -- a list with an element has a greatest
  has_greatest : (f : A) (ys : List A) → (g : A) × (first_greatest key (f ∷ ys) ≡ Some g) × (is_greatest key (f ∷ ys) g ≡ true)
  has_greatest f [] = let self : nat_le (key f) (key f) ≡ true = grind arith in (f, rw self refl, rw self refl)
  has_greatest f (y ∷ ys) = let (g, found, last) = has_greatest y ys in let (first, greatest) = step f g (y ∷ ys) found last in (greater key f g, first, greatest)

  -- the first of the greatest, with one more element at the front
  pub first_greatest-cons : (f : A) (ys : List A) → first_greatest key (f ∷ ys) ≡ greater_of key (Some f) (first_greatest key ys)
  first_greatest-cons f [] = let self : nat_le (key f) (key f) ≡ true = grind arith in rw self refl
  first_greatest-cons f (y ∷ ys) = let (g, found, last) = has_greatest y ys in let (first, greatest) = step f g (y ∷ ys) found last in first ∙ ap (greater_of key (Some f)) (sym found)

  -- in a list in the order of the keys none is above the last
  last-greatest : (xs : List A) (y : A) → IsNonDecreasingBy key xs → last_of xs ≡ Some y → is_greatest key xs y ≡ true
  last-greatest [] y up h = refl
  last-greatest (x ∷ []) y up h =
      let same : x ≡ y = cc in let here : nat_le (key x) (key y) ≡ true = rw same (grind arith) in rw here refl
  last-greatest (x ∷ z ∷ zs) y up h =
      let others = last-greatest (z ∷ zs) y (λ i j d le lt. up (suc i) (suc j) d (omega arith) (omega arith)) h in
      let (next, more) = both (nat_le (key z) (key y)) (list_all (λ other. nat_le (key other) (key y)) zs) others in
      let first : key x ≤ key z = up 0 1 x (omega arith) (omega arith) in
      let here : nat_le (key x) (key y) ≡ true = grind arith in
      rw (here, next) more

  -- there the last of the greatest is the last
  pub last_greatest-sorted : (xs : List A) → IsNonDecreasingBy key xs → last_greatest key xs ≡ last_of xs
  last_greatest-sorted xs up =
      by_option (last_of xs)
      (λ y is. last_of-filter (is_greatest key xs) xs y is (last-greatest xs y up is) ∙ sym is)
      (λ none. rw (last_of-none xs none) refl)

-- ---- items

module _ {S A E : Type 0} (size : S → ℕ) (step : S → Answer S A E) (shrinks : Shrinks size step) where
  -- lists are alike that are alike behind their first item
  items-alike : (f g : S → List (Result A E)) (answer : Answer S A E) → ((rest : S) (item : A) → answer ≡ Ok (Some (item, rest)) → f rest ≡ g rest)
      → items_from f answer ≡ items_from g answer
  items-alike f g (Ok (Some (item, rest))) same = ap (λ others. Ok item ∷ others) (same rest item refl)
  items-alike f g (Ok None) same = refl
  items-alike f g (Err fault) same = refl

  -- more steps than what is left has size are enough
  items-enough : (m n : ℕ) (s : S) → size s < m → size s < n → items_within m step s ≡ items_within n step s
  items-enough zero n s more most = absurd (omega arith)
  items-enough (suc m) zero s more most = absurd (omega arith)
  items-enough (suc m) (suc n) s more most =
      items-alike (items_within m step) (items_within n step) (step s)
      (λ rest item is. let less = shrinks.smaller s rest item is in items-enough m n rest (omega arith) (omega arith))

  -- the items begin with what a step gives
  pub items-first : (s : S) → items_of size step s ≡ items_from (items_of size step) (step s)
  items-first s =
      items-alike (items_within (size s) step) (items_of size step) (step s)
      (λ rest item is. let less = shrinks.smaller s rest item is in items-enough (size s) (suc (size rest)) rest less (omega arith))

  rest-alike : (f g : S → S) (s : S) (answer : Answer S A E) → ((rest : S) (item : A) → answer ≡ Ok (Some (item, rest)) → f rest ≡ g rest)
      → rest_from f s answer ≡ rest_from g s answer
  rest-alike f g s (Ok (Some (item, rest))) same = same rest item refl
  rest-alike f g s (Ok None) same = refl
  rest-alike f g s (Err fault) same = refl

  rest-enough : (m n : ℕ) (s : S) → size s < m → size s < n → rest_within m step s ≡ rest_within n step s
  rest-enough zero n s more most = absurd (omega arith)
  rest-enough (suc m) zero s more most = absurd (omega arith)
  rest-enough (suc m) (suc n) s more most =
      rest-alike (rest_within m step) (rest_within n step) s (step s)
      (λ rest item is. let less = shrinks.smaller s rest item is in rest-enough m n rest (omega arith) (omega arith))

  -- behind the first item the same is left as behind all
  pub rest-first : (s : S) → rest_of size step s ≡ rest_from (rest_of size step) s (step s)
  rest-first s =
      rest-alike (rest_within (size s) step) (rest_of size step) s (step s)
      (λ rest item is. let less = shrinks.smaller s rest item is in rest-enough (size s) (suc (size rest)) rest less (omega arith))

  -- a call that takes a step gives the first of what was to come
  pub gives-next : {X : Type 0} (view : X → A) (result : Result (Option X) E) (s rest : S) → step s ≡ step_taken view result rest → LeavesNone result (step rest)
      → GivesNext view result (items_of size step s) (items_of size step rest)
  gives-next view (Ok (Some x)) s rest is none = items-first s ∙ ap (items_from (items_of size step)) is
  gives-next view (Ok None) s rest is none = (items-first s ∙ ap (items_from (items_of size step)) is, items-first rest ∙ ap (items_from (items_of size step)) none)
  gives-next view (Err fault) s rest is none = (items-first s ∙ ap (items_from (items_of size step)) is, items-first rest ∙ ap (items_from (items_of size step)) none)
