-- A stable sort of FDEs by their starts gives them in the order of their starts.
use Rattle.std.proofs.Common.{◌≡◌, ℕ, zero, suc, ◌≤◌, Bool, true, false, List, [], ◌∷◌, nat_cmp, is_lt, refl, sym, ap, subst, ◌∙◌, arith}
use Rattle.std.specs.Prelude.{nat_le}
use Rattle.std.specs.List.{All, filter}
use Rattle.std.specs.List.Sorted.{IsNonDecreasingBy, IsPermutation, IsStableByKey, ties}
use Rattle.std.proofs.lemmas.Bool.Decides.{nat_tests}
use Rattle.std.proofs.lemmas.List.Elements.{All-nil, All-cons, All-head, All-tail, All-from_get_or}
use Rattle.std.proofs.lemmas.List.Sorted.{IsPermutation-refl, IsPermutation-cons, IsPermutation-middle, IsPermutation-trans}
use Rattle.list_laws.proofs.Laws.{by_case}
use Rattle.backtrace_lint.specs.Overlaps.{among, in_order}
use Rattle.backtrace_lint.specs.declared.overlaps.SpannedFde.{SpannedFde}

-- an FDE starts as another does
abbrev alike : SpannedFde → SpannedFde → Bool
alike x y = ties (λ u v. is_lt (nat_cmp u.start v.start)) x y

alike-starts : (x y : SpannedFde) → alike x y ≡ true → x.start ≡ y.start
alike-starts x y h = grind (arith, nat_tests)

starts-alike : (x y : SpannedFde) → x.start ≡ y.start → alike x y ≡ true
starts-alike x y h = grind (arith, nat_tests)

-- each FDE starts at or below those after it
abbrev pub Rises : List SpannedFde → Type 0
Rises [] = Unit {0}
Rises (x ∷ xs) = All (λ y. x.start ≤ y.start) xs × Rises xs

rises : (xs : List SpannedFde) → IsNonDecreasingBy (λ y. y.start) xs → Rises xs
rises [] up = tt
rises (x ∷ xs) up = (
  All-from_get_or (λ y. x.start ≤ y.start) xs x (λ i within. up 0 (suc i) x (omega arith) (omega arith)),
  rises xs (λ i j d le within. up (suc i) (suc j) d (omega arith) (omega arith)),
)

-- ---- lists that rise with the same FDEs at each start are equal

-- if an FDE of a list starts as another does, that one doesn't start below what is below the list
low : (k : ℕ) (x y : SpannedFde) (xs ys : List SpannedFde) → All (λ u. k ≤ u.start) xs → filter (alike x) xs ≡ y ∷ ys → k ≤ x.start
low k x y [] ys all is = cc
low k x y (u ∷ xs) ys all is =
    by_case (alike x u)
    (λ yes. let here = All-head (λ u. k ≤ u.start) u xs all in let same = alike-starts x u yes in omega arith)
    (λ no. low k x y xs ys (All-tail (λ u. k ≤ u.start) u xs all) (subst (λ (b : List SpannedFde). b ≡ y ∷ ys) (rw no refl) is))

self : (x : SpannedFde) (xs : List SpannedFde) → filter (alike x) (x ∷ xs) ≡ x ∷ filter (alike x) xs
self x xs = let yes = starts-alike x x refl in rw yes refl

heads : (x y : SpannedFde) (xs ys : List SpannedFde) → x ∷ xs ≡ y ∷ ys → x ≡ y
heads x y xs ys is = cc

tails : (x y : SpannedFde) (xs ys : List SpannedFde) → x ∷ xs ≡ y ∷ ys → xs ≡ ys
tails x y xs ys is = cc

alike-lists : (xs ys : List SpannedFde) → Rises xs → Rises ys → ((x : SpannedFde) → filter (alike x) xs ≡ filter (alike x) ys) → xs ≡ ys
alike-lists [] [] up also same = refl
alike-lists [] (y ∷ ys) up also same = let is = same y ∙ self y ys in cc
alike-lists (x ∷ xs) [] up also same = let is = sym (same x) ∙ self x xs in cc
alike-lists (x ∷ xs) (y ∷ ys) up also same =
    let upward : y.start ≤ x.start = low y.start x x (y ∷ ys) (filter (alike x) xs) (All-cons (λ u. y.start ≤ u.start) y ys (omega arith) also.0) (sym (same x) ∙ self x xs) in
    let downward : x.start ≤ y.start = low x.start y y (x ∷ xs) (filter (alike y) ys) (All-cons (λ u. x.start ≤ u.start) x xs (omega arith) up.0) (same y ∙ self y ys) in
    let start : x.start ≡ y.start = omega arith in
    let yes = starts-alike x y start in
    let both : x ∷ filter (alike x) xs ≡ y ∷ filter (alike x) ys = sym (self x xs) ∙ same x ∙ (rw yes refl) in
    let head : x ≡ y = heads x y (filter (alike x) xs) (filter (alike x) ys) both in
    let others : xs ≡ ys = alike-lists xs ys up.1 also.1
    (λ z. by_case (alike z x)
    (λ is. let also_is : alike z y ≡ true = subst (λ (u : SpannedFde). alike z u ≡ true) head is in
    tails x y (filter (alike z) xs) (filter (alike z) ys) (subst (λ (l : List SpannedFde). l ≡ y ∷ filter (alike z) ys) (rw is refl) (same z ∙ (rw also_is refl))))
    (λ is. let also_is : alike z y ≡ false = subst (λ (u : SpannedFde). alike z u ≡ false) head is in
    subst (λ (l : List SpannedFde). l ≡ filter (alike z) ys) (rw is refl) (same z ∙ (rw also_is refl)))) in
    rw (head, others) refl

-- ---- FDEs in the order of their starts

among-all : (P : SpannedFde → Type 0) (x : SpannedFde) (xs : List SpannedFde) → P x → All P xs → All P (among x xs)
among-all P x [] here all = All-cons P x [] here (All-nil P)
among-all P x (y ∷ ys) here all =
    by_case (nat_le x.start y.start)
    (λ is. rw is (All-cons P x (y ∷ ys) here all))
    (λ is. rw is (All-cons P y (among x ys) (All-head P y ys all) (among-all P x ys here (All-tail P y ys all))))

weaken : (k m : ℕ) (xs : List SpannedFde) → k ≤ m → All (λ u. m ≤ u.start) xs → All (λ u. k ≤ u.start) xs
weaken k m [] le all = All-nil (λ u. k ≤ u.start)
weaken k m (x ∷ xs) le all =
    let here = All-head (λ u. m ≤ u.start) x xs all in
    All-cons (λ u. k ≤ u.start) x xs (omega arith) (weaken k m xs le (All-tail (λ u. m ≤ u.start) x xs all))

among-rises : (x : SpannedFde) (xs : List SpannedFde) → Rises xs → Rises (among x xs)
among-rises x [] up = (All-nil (λ y. x.start ≤ y.start), tt)
among-rises x (y ∷ ys) up =
    by_case (nat_le x.start y.start)
    (λ is.
    let le : x.start ≤ y.start = grind (arith, nat_tests) in
    rw is (All-cons (λ u. x.start ≤ u.start) y ys le (weaken x.start y.start ys le up.0), up))
    (λ is.
    let le : y.start ≤ x.start = grind (arith, nat_tests) in
    rw is (among-all (λ u. y.start ≤ u.start) x ys le up.0, among-rises x ys up.1))

pub in-order-rises : (xs : List SpannedFde) → Rises (in_order xs)
in-order-rises [] = tt
in-order-rises (x ∷ xs) = among-rises x (in_order xs) (in-order-rises xs)

among-keeps : (z x : SpannedFde) (xs : List SpannedFde) → filter (alike z) (among x xs) ≡ filter (alike z) (x ∷ xs)
among-keeps z x [] = refl
among-keeps z x (y ∷ ys) =
    by_case (nat_le x.start y.start)
    (λ is. rw is refl)
    (λ is.
    by_case (alike z x)
    (λ yes.
    let others : filter (alike z) (among x ys) ≡ x ∷ filter (alike z) ys = among-keeps z x ys ∙ (rw yes refl) in
    by_case (alike z y)
    (λ also. let one = alike-starts z x yes in let two = alike-starts z y also in let not : nat_le x.start y.start ≡ true = grind (arith, nat_tests) in absurd cc)
    (λ no. rw (is, no, others, yes) refl))
    (λ no.
    let others : filter (alike z) (among x ys) ≡ filter (alike z) ys = among-keeps z x ys ∙ (rw no refl) in
    rw (is, others, no) refl))

pub in-order-keeps : (z : SpannedFde) (xs : List SpannedFde) → filter (alike z) (in_order xs) ≡ filter (alike z) xs
in-order-keeps z [] = refl
in-order-keeps z (x ∷ xs) =
    among-keeps z x (in_order xs)
    ∙ by_case (alike z x) (λ is. rw is (ap (λ (l : List SpannedFde). x ∷ l) (in-order-keeps z xs))) (λ is. rw is (in-order-keeps z xs))

-- what a stable sort makes
pub sorted-in-order : (xs ys : List SpannedFde) → IsNonDecreasingBy (λ y. y.start) ys → IsStableByKey (λ y. y.start) nat_cmp xs ys → ys ≡ in_order xs
sorted-in-order xs ys up stable =
    alike-lists ys (in_order xs) (rises ys up) (in-order-rises xs) (λ z. stable z ∙ sym (in-order-keeps z xs))

-- ---- FDEs in the order of their starts are the same FDEs

among-permutes : (x : SpannedFde) (xs : List SpannedFde) → IsPermutation (x ∷ xs) (among x xs)
among-permutes x [] = IsPermutation-refl (x ∷ [])
among-permutes x (y ∷ ys) =
    by_case (nat_le x.start y.start)
    (λ is. rw is (IsPermutation-refl (x ∷ y ∷ ys)))
    (λ is.
    rw is
    (IsPermutation-trans (x ∷ y ∷ ys) (y ∷ x ∷ ys) (y ∷ among x ys) (IsPermutation-middle (x ∷ []) y ys)
    (IsPermutation-cons y (x ∷ ys) (among x ys) (among-permutes x ys))))

pub in-order-permutes : (xs : List SpannedFde) → IsPermutation xs (in_order xs)
in-order-permutes [] = IsPermutation-refl []
in-order-permutes (x ∷ xs) =
    IsPermutation-trans (x ∷ xs) (x ∷ in_order xs) (among x (in_order xs)) (IsPermutation-cons x xs (in_order xs) (in-order-permutes xs))
    (among-permutes x (in_order xs))

-- none of FDEs that rise starts below one before it
non-decreasing : (xs : List SpannedFde) → Rises xs → IsNonDecreasingBy (λ y. y.start) xs
non-decreasing [] up i j d le within = absurd (omega arith)
non-decreasing (x ∷ xs) up zero zero d le within = omega arith
non-decreasing (x ∷ xs) up zero (suc j) d le within = up.0 j d (omega arith)
non-decreasing (x ∷ xs) up (suc i) zero d le within = absurd (omega arith)
non-decreasing (x ∷ xs) up (suc i) (suc j) d le within = non-decreasing xs up.1 i j d (omega arith) (omega arith)

pub in-order-non-decreasing : (xs : List SpannedFde) → IsNonDecreasingBy (λ y. y.start) (in_order xs)
in-order-non-decreasing xs = non-decreasing (in_order xs) (in-order-rises xs)
