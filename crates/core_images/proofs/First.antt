-- The first of a list that has a place.
use Rattle.std.proofs.Common.{◌≡◌, ℕ, suc, ◌+◌, ◌<◌, ◌≤◌, Bool, true, false, ◌&&◌, List, [], ◌∷◌, length, get_or, map, refl, arith}
use Rattle.std.specs.Prelude.{nat_le, nat_lt, Option, Some, option_and_then}
use Rattle.std.specs.List.{find}
use Rattle.std.proofs.lemmas.Bool.Decides.{nat_tests}
use Rattle.list_laws.proofs.Laws.{by_case}
use Rattle.core_images.specs.Runs.{AreKnown, NoneBegins}

both : (x y : Bool) → (x && y) ≡ true → (x ≡ true) × (y ≡ true)
both true true h = (refl, refl)
both true false h = cc
both false y h = cc

never : (x : Bool) → (x && false) ≡ false
never true = refl
never false = refl

-- a place from one number on, so many
is-within : (begin size place : ℕ) → (nat_le begin place && nat_lt place (begin + size)) ≡ true → (begin ≤ place) × (place < begin + size)
is-within begin size place is =
    let parts = both (nat_le begin place) (nat_lt place (begin + size)) is in
    let low : nat_le begin place ≡ true = parts.0 in
    let high : nat_lt place (begin + size) ≡ true = parts.1 in
    (grind (arith, nat_tests), grind (arith, nat_tests))

within-is : (begin size place : ℕ) → begin ≤ place → place < begin + size → (nat_le begin place && nat_lt place (begin + size)) ≡ true
within-is begin size place low high =
    let first : nat_le begin place ≡ true = grind (arith, nat_tests) in
    let second : nat_lt place (begin + size) ≡ true = grind (arith, nat_tests) in
    rw (first, second) refl

not-further : (begin size place k : ℕ) → (nat_le begin place && nat_lt place (begin + size)) ≡ false → (place < begin → place + k < begin)
    → (nat_le begin (place + k) && nat_lt (place + k) (begin + size)) ≡ false
not-further begin size place k not none =
    by_case (nat_le begin place)
    (λ is.
    let high : nat_lt place (begin + size) ≡ false = rw is at not in
    let ends : begin + size ≤ place = grind (arith, nat_tests) in
    let after : nat_lt (place + k) (begin + size) ≡ false = grind (arith, nat_tests) in
    rw after (never (nat_le begin (place + k))))
    (λ is.
    let low : place < begin = grind (arith, nat_tests) in
    let later = none low in
    let before : nat_le begin (place + k) ≡ false = grind (arith, nat_tests) in
    rw before refl)

module _ {A B : Type 0} (seen : A → B) (begin size : B → ℕ) where
  abbrev pub has : ℕ → B → Bool
  has place x = nat_le (begin x) place && nat_lt place (begin x + size x)

  -- the first that has a place has those after it too, up to its end and up to where another begins
  pub first-further : (xs : List A) (place k : ℕ) (x : B) → find (has place) (map seen xs) ≡ Some x → place + k < begin x + size x
      → ((i : ℕ) (d : A) → i < length xs → place < begin (seen (get_or xs i d)) → place + k < begin (seen (get_or xs i d)))
      → find (has (place + k)) (map seen xs) ≡ Some x
  first-further [] place k x found within none = cc
  first-further (y ∷ ys) place k x found within none =
      by_case (has place (seen y))
      (λ is.
      let same : Some (seen y) ≡ Some x = rw is at found in
      let one : seen y ≡ x = cc in
      let low : begin (seen y) ≤ place = (is-within (begin (seen y)) (size (seen y)) place is).0 in
      let high : place + k < begin (seen y) + size (seen y) = rw one within in
      let here : has (place + k) (seen y) ≡ true = within-is (begin (seen y)) (size (seen y)) (place + k) (omega arith) high in
      rw here same)
      (λ not.
      let rest : find (has place) (map seen ys) ≡ Some x = rw not at found in
      let away : has (place + k) (seen y) ≡ false = not-further (begin (seen y)) (size (seen y)) place k not (none 0 y (omega arith)) in
      rw away (first-further ys place k x rest within (λ i d h. none (suc i) d (omega arith))))

  -- it has that place
  pub first-has : (xs : List A) (place : ℕ) (x : B) → find (has place) (map seen xs) ≡ Some x → (begin x ≤ place) × (place < begin x + size x)
  first-has [] place x found = cc
  first-has (y ∷ ys) place x found =
      by_case (has place (seen y))
      (λ is.
      let same : Some (seen y) ≡ Some x = rw is at found in
      let one : seen y ≡ x = cc in
      is-within (begin x) (size x) place (rw (← one) is))
      (λ not. first-has ys place x (rw not at found))

  -- bytes that the first has are known by the first at each place
  pub known-further : (get : B → ℕ → Option ℕ) (xs : List A) (place many : ℕ) (x : B) (bytes : List ℕ) → find (has place) (map seen xs) ≡ Some x → AreKnown (get x) place bytes
      → length bytes ≤ many → place + many ≤ begin x + size x → NoneBegins (λ (a : A). begin (seen a)) place many xs
      → AreKnown (λ at. option_and_then (λ y. get y at) (find (has at) (map seen xs))) place bytes
  known-further get xs place many x bytes found are most within none = record {
    known = λ k h.
        let below : k < many = omega arith in
        let at : find (has (place + k)) (map seen xs) ≡ Some x = first-further xs place k x found (omega arith) (λ i d inside after. let far = none i d inside after in omega arith) in
        rw at (are.known k h);
    some = are.some;
  }
