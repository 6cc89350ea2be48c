-- Halving, half by half: as many halves as there are rows are enough, and of 2^k rows at most k starts are read.
use Rattle.std.proofs.Common.{◌≡◌, ℕ, zero, suc, ◌-◌, ◌/◌, ◌^◌, ◌<◌, ◌≤◌, Bool, true, false, cond, List, [], ◌∷◌, length, take, drop, Result, Ok, Err, refl, ap, ◌∙◌, arith, length-take, length-drop}
use Rattle.std.specs.Prelude.{◌==◌, nat_lt}
use Rattle.std.proofs.lemmas.Bool.Decides.{nat_tests}
use Rattle.list_laws.proofs.Laws.{at-most-half, at-most-none, by_case}
use Rattle.dwarf_constants.specs.declared.error.Error.{Error}
use Rattle.dwarf_call_frames.specs.Halving.{Halving, TableRow, after_start, ended_at, first_start, halving, halving_within}

-- ---- one half

-- what is done behind a pivot
abbrev pub Onwards : (ℕ → List TableRow → Halving) → ℕ → List TableRow → List TableRow → Halving
Onwards more address front back =
    after_start (first_start back) (λ pivot. cond (pivot == address) (ended_at back) (cond (nat_lt pivot address) (more address back) (more address front)))

chosen : {X : Type 0} (a b : Bool) (x y y' z z' : X) → y ≡ y' → z ≡ z' → cond a x (cond b y z) ≡ cond a x (cond b y' z')
chosen true b x y y' z z' p q = refl
chosen false true x y y' z z' p q = p
chosen false false x y y' z z' p q = q

after_start-same : (start : Result ℕ Error) (f g : ℕ → Halving) → ((pivot : ℕ) → f pivot ≡ g pivot) → after_start start f ≡ after_start start g
after_start-same (Ok start) f g same = ap (λ (h : Halving). record { reached = h.reached; reads = suc h.reads }) (same start)
after_start-same (Err e) f g same = refl

onwards-same : (f g : ℕ → List TableRow → Halving) (address : ℕ) (front back : List TableRow) → f address front ≡ g address front → f address back ≡ g address back
    → Onwards f address front back ≡ Onwards g address front back
onwards-same f g address front back p q =
    after_start-same (first_start back) _ _ (λ pivot. chosen (pivot == address) (nat_lt pivot address) (ended_at back) _ _ _ _ q p)

-- where more rows than one are left, both parts have fewer
back-shorter : (rows : List TableRow) (n : ℕ) → length rows ≤ suc n → (length rows / 2 == 0) ≡ false → length (drop (length rows / 2) rows) ≤ n
back-shorter rows n h some = let len = length-drop (length rows / 2) rows in grind (arith, nat_tests)

front-shorter : (rows : List TableRow) (n : ℕ) → length rows ≤ suc n → (length rows / 2 == 0) ≡ false → length (take (length rows / 2) rows) ≤ n
front-shorter rows n h some = let len = length-take (length rows / 2) rows in grind (arith, nat_tests)

-- ---- enough halves

-- more halves than there are rows change nothing
enough : (n m address : ℕ) (rows : List TableRow) → length rows ≤ n → length rows ≤ m → halving_within n address rows ≡ halving_within m address rows
enough zero zero address rows p q = refl
enough zero (suc m) address [] p q = refl
enough zero (suc m) address (row ∷ rows) p q = absurd (omega arith)
enough (suc n) zero address [] p q = refl
enough (suc n) zero address (row ∷ rows) p q = absurd (omega arith)
enough (suc n) (suc m) address rows p q =
    by_case (length rows / 2 == 0)
    (λ none. rw none refl)
    (λ some. rw some (onwards-same (halving_within n) (halving_within m) address (take (length rows / 2) rows) (drop (length rows / 2) rows)
    (enough n m address _ (front-shorter rows n p some) (front-shorter rows m q some))
    (enough n m address _ (back-shorter rows n p some) (back-shorter rows m q some))))

-- one row is reached
pub halving-one : (address : ℕ) (rows : List TableRow) → length rows ≤ 1 → halving address rows ≡ ended_at rows
unfolding halving
halving-one address [] few = refl
halving-one address (row ∷ []) few = refl
halving-one address (row ∷ other ∷ rows) few = absurd (omega arith)

-- of more rows, those before the pivot and those from it on
pub halving-more : (address : ℕ) (rows front back : List TableRow) → 1 < length rows → take (length rows / 2) rows ≡ front → drop (length rows / 2) rows ≡ back
    → halving address rows ≡ Onwards halving address front back
unfolding halving
halving-more address rows front back more at-front at-back = by (length rows) refl
  where
    some : (length rows / 2 == 0) ≡ false
    some = grind (arith, nat_tests)

    by : (n : ℕ) → length rows ≡ n → halving_within (length rows) address rows ≡ Onwards halving address front back
    by zero none = absurd (omega arith)
    by (suc n) len =
        let parts = onwards-same (halving_within n) halving address (take (length rows / 2) rows) (drop (length rows / 2) rows)
        (enough n _ address _ (front-shorter rows n (omega arith) some) (omega arith))
        (enough n _ address _ (back-shorter rows n (omega arith) some) (omega arith)) in
        let open_ : halving_within (suc n) address rows ≡ Onwards halving address (take (length rows / 2) rows) (drop (length rows / 2) rows) = rw some parts in
        ap (λ (k : ℕ). halving_within k address rows) len ∙ open_ ∙ ap (λ (f : List TableRow). Onwards halving address f (drop (length rows / 2) rows)) at-front ∙ ap (λ (b : List TableRow). Onwards halving address front b) at-back

-- ---- few reads

few-chosen : (a b : Bool) (k : ℕ) (x y z : Halving) → x.reads ≤ k → y.reads ≤ k → z.reads ≤ k → (cond a x (cond b y z)).reads ≤ k
few-chosen true b k x y z p q r = p
few-chosen false true k x y z p q r = q
few-chosen false false k x y z p q r = r

few-behind : (start : Result ℕ Error) (k : ℕ) (f : ℕ → Halving) → 1 ≤ k → ((pivot : ℕ) → (f pivot).reads ≤ k - 1) → (after_start start f).reads ≤ k
few-behind (Ok start) k f some few = let less = few start in omega arith
few-behind (Err e) k f some few = omega arith

-- one half more reads one start more
few-onwards : (more : ℕ → List TableRow → Halving) (address k : ℕ) (rows : List TableRow)
    → ((j : ℕ) (part : List TableRow) → length part ≤ 2 ^ j → (more address part).reads ≤ j)
    → length rows ≤ 2 ^ k → (length rows / 2 == 0) ≡ false
    → (Onwards more address (take (length rows / 2) rows) (drop (length rows / 2) rows)).reads ≤ k
few-onwards more address k rows few h some =
    let two : 1 < length rows = grind (arith, nat_tests) in
    let (one, fits) = at-most-half (length rows) 0 (length rows) (length rows - length rows / 2) two (omega arith) (at-most-none (length rows)) k h in
    let len-front = length-take (length rows / 2) rows in
    let len-back = length-drop (length rows / 2) rows in
    few-behind (first_start (drop (length rows / 2) rows)) k _ (omega (arith, one)) (λ pivot. few-chosen (pivot == address) (nat_lt pivot address) (k - 1) _ _ _ (omega arith)
    (few (k - 1) _ (omega (arith, fits, len-front))) (few (k - 1) _ (omega (arith, fits, len-back))))

-- of at most 2^k rows at most k starts are read
few_within : (n k address : ℕ) (rows : List TableRow) → length rows ≤ 2 ^ k → (halving_within n address rows).reads ≤ k
few_within zero k address rows h = omega arith
few_within (suc n) k address rows h =
    by_case (length rows / 2 == 0)
    (λ none. rw none (omega arith))
    (λ some. rw some (few-onwards (halving_within n) address k rows (λ j part few. few_within n j address part few) h some))

pub few_reads : (address k : ℕ) (rows : List TableRow) → length rows ≤ 2 ^ k → (halving address rows).reads ≤ k
unfolding halving
few_reads address k rows h = few_within (length rows) k address rows h
