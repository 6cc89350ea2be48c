-- A part of the entries: how many of all are in a block, and what a search in the part says of all.
use Rattle.std.proofs.Common.{◌≡◌, ℕ, zero, suc, ◌+◌, ◌-◌, ◌*◌, ◌/◌, ◌<◌, ◌≤◌, Bool, true, false, List, [], ◌∷◌, length, get_or, drop, ap, sym, ◌∙◌, arith, length-take-le, length-drop}
use Rattle.std.specs.Prelude.{◌==◌, cond, count_by, nat_lt, slice_range}
use Rattle.std.specs.List.{AllWithin}
use Rattle.std.specs.List.Sorted.{IsNonDecreasingBy, IsPartitionPoint}
use Rattle.std.proofs.lemmas.Bool.Decides.{nat_tests}
use Rattle.std.proofs.lemmas.List.{get_or-take, get_or-drop}
use Rattle.std.proofs.lemmas.List.Sums.{sum_by-cons}
use Rattle.std.proofs.lemmas.List.Sorted.{IsNonDecreasingBy-drop, IsNonDecreasingBy-take}
use Rattle.std.proofs.lemmas.Nat.{div_below, le-div}
use Rattle.list_laws.proofs.Laws.{by_case}
use Rattle.framehop_ranges.specs.declared.entry.RangeEntry.{RangeEntry}
use Rattle.framehop_ranges.specs.Blocks.{IsPart, Passes}

-- ---- how many are in a block

-- a number within a block
block-is : (size block n : ℕ) → 0 < size → block * size ≤ n → n < (block + 1) * size → n / size ≡ block
block-is size block n some low high =
    let least = le-div block n size some low in
    let most = div_below n size (block + 1) some high in
    omega arith

module _ {X : Type 0} (test : X → Bool) (x : X) (xs : List X) where
  cons-passed : (b : Bool) → test x ≡ b → count_by test (x ∷ xs) ≡ cond b 1 0 + count_by test xs
  cons-passed b is = sum_by-cons (λ x. cond (test x) 1 0) x xs ∙ ap (λ b. cond b 1 0 + count_by test xs) is

-- those that pass a test, if they are all from one place up to another
count-between : {X : Type 0} (test : X → Bool) (xs : List X) (first end : ℕ) → first ≤ end → end ≤ length xs → AllWithin (λ x. test x ≡ false) xs 0 first → AllWithin (λ x. test x ≡ true) xs first end
    → AllWithin (λ x. test x ≡ false) xs end (length xs) → count_by test xs ≡ end - first
count-between test [] first end order bound before here after = omega arith
count-between test (x ∷ xs) zero zero order bound before here after =
    let no : test x ≡ false = after 0 x (omega arith) (omega arith) in
    let rest = count-between test xs 0 0 (omega arith) (omega arith) (λ k d f t. absurd (omega arith)) (λ k d f t. absurd (omega arith)) (λ k d f t. after (suc k) d (omega arith) (omega arith)) in
    omega (arith, cons-passed test x xs false no, rest)
count-between test (x ∷ xs) zero (suc end) order bound before here after =
    let yes : test x ≡ true = here 0 x (omega arith) (omega arith) in
    let rest = count-between test xs 0 end (omega arith) (omega arith) (λ k d f t. absurd (omega arith)) (λ k d f t. here (suc k) d (omega arith) (omega arith)) (λ k d f t. after (suc k) d (omega arith) (omega arith)) in
    omega (arith, cons-passed test x xs true yes, rest)
count-between test (x ∷ xs) (suc first) zero order bound before here after = absurd (omega arith)
count-between test (x ∷ xs) (suc first) (suc end) order bound before here after =
    let no : test x ≡ false = before 0 x (omega arith) (omega arith) in
    let rest = count-between test xs first end (omega arith) (omega arith) (λ k d f t. before (suc k) d (omega arith) (omega arith)) (λ k d f t. here (suc k) d (omega arith) (omega arith))
    (λ k d f t. after (suc k) d (omega arith) (omega arith)) in
    omega (arith, cons-passed test x xs false no, rest)

-- .. and so, if those below a block and below the next are the first ones
pub near-part : {V : Type 0} (entries : List (RangeEntry V)) (size address block first end : ℕ) → 0 < size → block * size ≤ address → address < (block + 1) * size → first ≤ end
    → Passes (block * size) entries first → Passes ((block + 1) * size) entries end → end - first ≡ count_by (λ entry. entry.start / size == address / size) entries
near-part {V} entries size address block first end some low high order from to = sym (count-between (λ entry. entry.start / size == address / size) entries first end order to.bound before here after)
  where
    block-of : address / size ≡ block
    block-of = block-is size block address some low high

    before : AllWithin (λ entry. (entry.start / size == address / size) ≡ false) entries 0 first
    before k d f t =
        let start = (get_or entries k d).start in
        let below = div_below start size block some (from.below k d f t) in
        grind (arith, nat_tests, block-of, below)

    here : AllWithin (λ entry. (entry.start / size == address / size) ≡ true) entries first end
    here k d f t =
        let start = (get_or entries k d).start in
        let is = block-is size block start some (from.above k d f (omega (arith, to.bound))) (to.below k d (omega arith) t) in
        grind (arith, nat_tests, block-of, is)

    after : AllWithin (λ entry. (entry.start / size == address / size) ≡ false) entries end (length entries)
    after k d f t =
        let start = (get_or entries k d).start in
        let above = le-div (block + 1) start size some (to.above k d f t) in
        grind (arith, nat_tests, block-of, above)

-- ---- a part

module _ {V : Type 0} (entries : List (RangeEntry V)) (address first end : ℕ) (part : IsPart entries address first end) where
  pub length-part : length (slice_range entries first end) ≡ end - first
  length-part = length-take-le (end - first) (drop first entries) (omega (arith, length-drop first entries, part.order, part.bound))

  entry-of : (place : ℕ) (d : RangeEntry V) → place < end - first → get_or (slice_range entries first end) place d ≡ get_or entries (first + place) d
  entry-of place d within = get_or-take (end - first) (drop first entries) place d within ∙ get_or-drop first entries place d

  -- a part of entries in order is in order
  pub part-in-order : IsNonDecreasingBy (λ entry. entry.start) entries → IsNonDecreasingBy (λ entry. entry.start) (slice_range entries first end)
  part-in-order up = IsNonDecreasingBy-take (λ entry. entry.start) (end - first) (drop first entries) (IsNonDecreasingBy-drop (λ entry. entry.start) first entries up)

  -- what parts it parts all
  pub parted : (at : ℕ) → at ≤ length (slice_range entries first end) → IsPartitionPoint (λ entry. entry.start ≤ address) (λ entry. address < entry.start) (slice_range entries first end) at
      → IsPartitionPoint (λ entry. entry.start ≤ address) (λ entry. address < entry.start) entries (first + at)
  parted at bound (below, above) = (
    λ k d f t. by_case (nat_lt k first)
        (λ is. part.before k d f (grind (arith, nat_tests)))
        (λ is.
        let past : first ≤ k = grind (arith, nat_tests) in
        let there : first + (k - first) ≡ k = omega arith in
        let low = below (k - first) d (omega arith) (omega arith) in
        rw (entry-of (k - first) d (omega (arith, bound, length-part)), there) at low),
    λ k d f t. by_case (nat_lt k end)
        (λ is.
        let before : k < end = grind (arith, nat_tests) in
        let there : first + (k - first) ≡ k = omega arith in
        let high = above (k - first) d (omega arith) (omega (arith, length-part)) in
        rw (entry-of (k - first) d (omega arith), there) at high)
        (λ is. part.after k d (grind (arith, nat_tests)) t),
  )
