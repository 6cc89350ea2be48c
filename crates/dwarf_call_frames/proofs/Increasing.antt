-- Over strictly increasing starts halving finds the last row at or below the address, or the first.
use Rattle.std.proofs.Common.{◌≡◌, ℕ, zero, suc, ◌+◌, ◌/◌, ◌<◌, ◌≤◌, true, false, List, [], ◌∷◌, ◌++◌, length, length-append, take, drop, map, Option, Some, None, Result, refl, sym, ap, subst, ◌∙◌, arith}
use Rattle.std.specs.Prelude.{◌==◌, nat_lt, nat_le, slice_index}
use Rattle.std.specs.List.{filter}
use Rattle.std.specs.List.Sorted.{IsStrictlyIncreasing}
use Rattle.std.proofs.lemmas.Bool.Decides.{nat_tests}
use Rattle.std.proofs.lemmas.List.Elements.{filter-append}
use Rattle.list_laws.specs.Last.{last_of}
use Rattle.list_laws.proofs.Laws.{by_case}
use Rattle.dwarf_constants.specs.declared.error.Error.{Error}
use Rattle.dwarf_frame_rows.specs.declared.pointer.Pointer.{Pointer}
use Rattle.dwarf_call_frames.specs.Halving.{FindsRowAtOrBelow, halving, row_with_start, target_at_or_below, target_or_first}
use Rattle.dwarf_call_frames.proofs.Halves.{Onwards, halving-more, halving-one}

-- ---- lists cut at a row

-- a list in which this many elements stand before another
record CutAt {X : Type 0} (n : ℕ) (xs : List X) : Type 0 where
  front : List X
  pivot : X
  back : List X
  is : xs ≡ front ++ pivot ∷ back
  before : length front ≡ n

cut : {X : Type 0} (n : ℕ) (xs : List X) → n < length xs → CutAt n xs
cut n [] h = absurd (omega arith)
cut zero (x ∷ xs) h = record { front = []; pivot = x; back = xs; is = refl; before = refl }
cut (suc n) (x ∷ xs) h =
    let others = cut n xs (omega arith) in
    record { front = x ∷ others.front; pivot = others.pivot; back = others.back; is = ap (λ ys. x ∷ ys) others.is; before = ap suc others.before }

drop-cut : (front back : List (ℕ × Result Pointer Error)) → drop (length front) (map row_with_start (front ++ back)) ≡ map row_with_start back
drop-cut [] back = refl
drop-cut (row ∷ front) back = drop-cut front back

take-cut : (front back : List (ℕ × Result Pointer Error)) → take (length front) (map row_with_start (front ++ back)) ≡ map row_with_start front
take-cut [] back = refl
take-cut (row ∷ front) back = ap (λ rows. row_with_start row ∷ rows) (take-cut front back)

length-read : (rows : List (ℕ × Result Pointer Error)) → length (map row_with_start rows) ≡ length rows
length-read [] = refl
length-read (row ∷ rows) = ap suc (length-read rows)

-- ---- increasing starts, row by row

-- all starts are above one
abbrev pub AllAbove : ℕ → List (ℕ × Result Pointer Error) → Type 0
AllAbove low [] = Unit {0}
AllAbove low (row ∷ rows) = (low < row.0) × AllAbove low rows

-- each start is below those behind it
abbrev pub Increases : List (ℕ × Result Pointer Error) → Type 0
Increases [] = Unit {0}
Increases (row ∷ rows) = AllAbove row.0 rows × Increases rows

above-more : (low high : ℕ) (rows : List (ℕ × Result Pointer Error)) → low < high → AllAbove high rows → AllAbove low rows
above-more low high [] h all = tt
above-more low high (row ∷ rows) h all = (omega (arith, all.0), above-more low high rows h all.1)

pub increases : (rows : List (ℕ × Result Pointer Error)) → IsStrictlyIncreasing (map (λ row. row.0) rows) → Increases rows
increases [] up = tt
increases (row ∷ []) up = (tt, tt)
increases (row ∷ next ∷ rows) up =
    let others = increases (next ∷ rows) (λ k h. behind k (up (suc k) (omega (arith, h)))) in
    let first : row.0 < next.0 = up 0 (omega arith) in
    ((first, above-more row.0 next.0 rows first others.0), others)
  where
    starts : List ℕ
    starts = map (λ (r : ℕ × Result Pointer Error). r.0) (next ∷ rows)

    behind : (k : ℕ) → slice_index (row.0 ∷ starts) (suc k) < slice_index (row.0 ∷ starts) (suc k + 1) → slice_index starts k < slice_index starts (k + 1)
    behind k h =
        let same : suc k + 1 ≡ suc (k + 1) = omega arith in
        let P : ℕ → Type 0 = λ j. slice_index (row.0 ∷ starts) (suc k) < slice_index (row.0 ∷ starts) j in subst P same h

front-increases : (front back : List (ℕ × Result Pointer Error)) → Increases (front ++ back) → Increases front
front-increases [] back up = tt
front-increases (row ∷ front) back up = (front-above row.0 front up.0, front-increases front back up.1)
  where
    front-above : (low : ℕ) (front : List (ℕ × Result Pointer Error)) → AllAbove low (front ++ back) → AllAbove low front
    front-above low [] all = tt
    front-above low (row ∷ front) all = (all.0, front-above low front all.1)

back-increases : (front back : List (ℕ × Result Pointer Error)) → Increases (front ++ back) → Increases back
back-increases [] back up = up
back-increases (row ∷ front) back up = back-increases front back up.1

-- ---- the rows at or below an address

abbrev low_rows : ℕ → List (ℕ × Result Pointer Error) → List (ℕ × Result Pointer Error)
low_rows address rows = filter (λ row. nat_le row.0 address) rows

none-low : (address low : ℕ) (rows : List (ℕ × Result Pointer Error)) → address ≤ low → AllAbove low rows → low_rows address rows ≡ []
none-low address low [] h all = refl
none-low address low (row ∷ rows) h all =
    let high : nat_le row.0 address ≡ false = grind (arith, nat_tests, all.0) in
    rw high (none-low address low rows h all.1)

-- the last of a list is that of what stands from some element on
last_of-back : {X : Type 0} (front : List X) (x : X) (back : List X) → last_of (front ++ x ∷ back) ≡ last_of (x ∷ back)
last_of-back [] x back = refl
last_of-back (y ∷ []) x back = refl
last_of-back (y ∷ z ∷ front) x back = last_of-back (z ∷ front) x back

has-last : {X : Type 0} (x : X) (xs : List X) → (y : X) × (last_of (x ∷ xs) ≡ Some y)
has-last x [] = (x, refl)
has-last x (y ∷ ys) = has-last y ys

-- the pivot is at the address: it is the last
found-at : (address : ℕ) (front : List (ℕ × Result Pointer Error)) (pivot : ℕ × Result Pointer Error) (back : List (ℕ × Result Pointer Error)) → Increases (pivot ∷ back) → pivot.0 ≡ address
    → target_at_or_below address (front ++ pivot ∷ back) ≡ pivot.1
found-at address front pivot back up at =
    let here : nat_le pivot.0 address ≡ true = grind (arith, nat_tests) in
    let none = none-low address pivot.0 back (omega arith) up.0 in
    let low : low_rows address (pivot ∷ back) ≡ pivot ∷ [] = rw (here, none) refl in
    let whole : low_rows address (front ++ pivot ∷ back) ≡ low_rows address front ++ pivot ∷ [] = filter-append (λ row. nat_le row.0 address) front (pivot ∷ back) ∙ ap (λ rows. low_rows address front ++ rows) low in
    let last : last_of (low_rows address (front ++ pivot ∷ back)) ≡ Some pivot = ap last_of whole ∙ last_of-back (low_rows address front) pivot [] in
    ap (λ row. target_or_first row (front ++ pivot ∷ back)) last

-- the pivot is below the address: the last is the pivot or behind it
found-behind : (address : ℕ) (front : List (ℕ × Result Pointer Error)) (pivot : ℕ × Result Pointer Error) (back : List (ℕ × Result Pointer Error)) → pivot.0 ≤ address
    → target_at_or_below address (front ++ pivot ∷ back) ≡ target_at_or_below address (pivot ∷ back)
found-behind address front pivot back below =
    let here : nat_le pivot.0 address ≡ true = grind (arith, nat_tests) in
    let low : low_rows address (pivot ∷ back) ≡ pivot ∷ low_rows address back = rw here refl in
    let whole : low_rows address (front ++ pivot ∷ back) ≡ low_rows address front ++ pivot ∷ low_rows address back = filter-append (λ row. nat_le row.0 address) front (pivot ∷ back) ∙ ap (λ rows. low_rows address front ++ rows) low in
    let (last, is) = has-last pivot (low_rows address back) in
    let all : last_of (low_rows address (front ++ pivot ∷ back)) ≡ Some last = ap last_of whole ∙ last_of-back (low_rows address front) pivot (low_rows address back) ∙ is in
    let part : last_of (low_rows address (pivot ∷ back)) ≡ Some last = ap last_of low ∙ is in
    ap (λ row. target_or_first row (front ++ pivot ∷ back)) all ∙ sym (ap (λ row. target_or_first row (pivot ∷ back)) part)

-- the pivot is above the address: the last is before it, or there is none
found-before : (address : ℕ) (first : ℕ × Result Pointer Error) (front : List (ℕ × Result Pointer Error)) (pivot : ℕ × Result Pointer Error) (back : List (ℕ × Result Pointer Error)) → Increases (pivot ∷ back) → address < pivot.0
    → target_at_or_below address ((first ∷ front) ++ pivot ∷ back) ≡ target_at_or_below address (first ∷ front)
found-before address first front pivot back up above =
    let low : low_rows address (pivot ∷ back) ≡ [] = none-low address address (pivot ∷ back) (omega arith) (above, above-more address pivot.0 back above up.0) in
    let whole : low_rows address ((first ∷ front) ++ pivot ∷ back) ≡ low_rows address (first ∷ front) ++ [] = filter-append (λ row. nat_le row.0 address) (first ∷ front) (pivot ∷ back) ∙ ap (λ rows. low_rows address (first ∷ front) ++ rows) low in
    let same : low_rows address ((first ∷ front) ++ pivot ∷ back) ≡ low_rows address (first ∷ front) = whole ∙ append-nil (low_rows address (first ∷ front)) in
    first-same (last_of (low_rows address (first ∷ front))) (ap last_of same)
  where
    append-nil : (rows : List (ℕ × Result Pointer Error)) → rows ++ [] ≡ rows
    append-nil [] = refl
    append-nil (row ∷ rows) = ap (λ others. row ∷ others) (append-nil rows)

    first-same : (row : Option (ℕ × Result Pointer Error)) → last_of (low_rows address ((first ∷ front) ++ pivot ∷ back)) ≡ row
        → target_at_or_below address ((first ∷ front) ++ pivot ∷ back) ≡ target_or_first row (first ∷ front)
    first-same (Some row) is = ap (λ (r : Option (ℕ × Result Pointer Error)). target_or_first r ((first ∷ front) ++ pivot ∷ back)) is
    first-same None is = ap (λ (r : Option (ℕ × Result Pointer Error)). target_or_first r ((first ∷ front) ++ pivot ∷ back)) is

-- ---- halving

-- one row is taken, whatever its start is
one-found : (address : ℕ) (row : ℕ × Result Pointer Error) → target_at_or_below address (row ∷ []) ≡ row.1
one-found address row = by_case (nat_le row.0 address) (λ low. rw low refl) (λ high. rw high refl)

-- the three cases of a pivot
cases-found : (address : ℕ) (front : List (ℕ × Result Pointer Error)) (pivot : ℕ × Result Pointer Error) (back : List (ℕ × Result Pointer Error)) → 0 < length front → Increases (pivot ∷ back)
    → (halving address (map row_with_start (pivot ∷ back))).reached ≡ target_at_or_below address (pivot ∷ back)
    → (halving address (map row_with_start front)).reached ≡ target_at_or_below address front
    → (Onwards halving address (map row_with_start front) (map row_with_start (pivot ∷ back))).reached ≡ target_at_or_below address (front ++ pivot ∷ back)
cases-found address [] pivot back some up behind before = absurd (omega arith)
cases-found address (first ∷ front) pivot back some up behind before =
    by_case (pivot.0 == address)
    (λ at. rw at (sym (found-at address (first ∷ front) pivot back up (grind (arith, nat_tests)))))
    (λ other. by_case (nat_lt pivot.0 address)
    (λ below. rw (other, below) (behind ∙ sym (found-behind address (first ∷ front) pivot back (grind (arith, nat_tests)))))
    (λ above. rw (other, above) (before ∙ sym (found-before address first front pivot back up (grind (arith, nat_tests))))))

found_within : (n address : ℕ) (rows : List (ℕ × Result Pointer Error)) → length rows ≤ n → Increases rows → (halving address (map row_with_start rows)).reached ≡ target_at_or_below address rows
found_within n address [] few up = ap (λ h. h.reached) (halving-one address [] (omega arith))
found_within n address (row ∷ []) few up = ap (λ h. h.reached) (halving-one address (row_with_start row ∷ []) (omega arith)) ∙ sym (one-found address row)
found_within zero address (row ∷ next ∷ rows) few up = absurd (omega arith)
found_within (suc n) address (row ∷ next ∷ rows) few up =
    let all : List (ℕ × Result Pointer Error) = row ∷ next ∷ rows in
    let len = length-read all in
    let c = cut (length all / 2) all (omega arith) in
    let sizes : length all ≡ length c.front + length (c.pivot ∷ c.back) = ap length c.is ∙ length-append c.front (c.pivot ∷ c.back) in
    let at : length (map row_with_start all) / 2 ≡ length c.front = ap (λ k. k / 2) len ∙ sym c.before in
    let parts : Increases (c.front ++ c.pivot ∷ c.back) = subst Increases c.is up in
    let halves = halving-more address (map row_with_start all) (map row_with_start c.front) (map row_with_start (c.pivot ∷ c.back)) (omega arith)
    (ap (λ k. take k (map row_with_start all)) at ∙ ap (λ (rows : List (ℕ × Result Pointer Error)). take (length c.front) (map row_with_start rows)) c.is ∙ take-cut c.front (c.pivot ∷ c.back))
    (ap (λ k. drop k (map row_with_start all)) at ∙ ap (λ (rows : List (ℕ × Result Pointer Error)). drop (length c.front) (map row_with_start rows)) c.is ∙ drop-cut c.front (c.pivot ∷ c.back)) in
    let behind = found_within n address (c.pivot ∷ c.back) (omega (arith, c.before)) (back-increases c.front (c.pivot ∷ c.back) parts) in
    let before = found_within n address c.front (omega (arith, c.before)) (front-increases c.front (c.pivot ∷ c.back) parts) in
    ap (λ h. h.reached) halves ∙ cases-found address c.front c.pivot c.back (omega (arith, c.before)) (back-increases c.front (c.pivot ∷ c.back) parts) behind before ∙ sym (ap (target_at_or_below address) c.is)

pub finds : (address : ℕ) (rows : List (ℕ × Result Pointer Error)) → FindsRowAtOrBelow address rows
finds address rows up = found_within (length rows) address rows (omega arith) (increases rows up)
