-- Halving sorted starts: what is known of those that are left.
use Rattle.std.proofs.Common.{◌≡◌, ℕ, zero, suc, ◌+◌, ◌-◌, ◌*◌, ◌/◌, ◌<◌, ◌≤◌, Bool, true, false, if◌then◌else◌, List, length, [], ◌∷◌, get_or, refl, ap, arith}
use Rattle.std.specs.Prelude.{nat_le}
use Rattle.std.specs.List.Sorted.{IsNonDecreasingBy, IsPartitionPoint}
use Rattle.std.proofs.lemmas.Bool.Decides.{nat_tests}
use Rattle.std.proofs.lemmas.List.{get_or-map}
use Rattle.list_laws.proofs.Laws.{at-most-half, at-least-half}
use Rattle.list_laws.specs.Halves.{AtLeastHalved, AtMostHalved}
use Rattle.sorted_starts.specs.Halves.{IsLeft}
use Rattle.sorted_starts.specs.Starts.{AreSorted, Parts, start_of}

module _ (count : ℕ) (start : ℕ → ℕ) (sorted : AreSorted count start) where
  from : (more place : ℕ) → place + more < count → start place ≤ start (place + more)
  from zero place within = let same : place + 0 ≡ place = omega arith in rw same (omega arith)
  from (suc more) place within =
      let one : place + suc more ≡ place + 1 + more = omega arith in
      let step = sorted place (omega arith) in
      let rest = from more (place + 1) (omega arith) in
      rw one (omega arith)

  -- no start is below one before it
  pub in-order : (i j : ℕ) → i ≤ j → j < count → start i ≤ start j
  in-order i j low high =
      let there : i + (j - i) ≡ j = omega arith in
      let more = from (j - i) i (omega arith) in
      rw there at more

  -- one read more leaves half: the second, if its first start is at or below the limit
  pub half-left : (limit first len reads next : ℕ) → 1 < len → IsLeft count start limit first len reads
      → next ≡ first + len / 2 * (if nat_le (start (first + len / 2)) limit then 1 else 0) → IsLeft count start limit next (len - len / 2) (reads + 1)
  half-left limit first len reads next several left is = by (nat_le (start (first + len / 2)) limit) refl is
    where
      few : AtMostHalved count (reads + 1) (len - len / 2)
      few = at-most-half count reads len (len - len / 2) several (omega arith) left.few

      enough : AtLeastHalved count (reads + 1) (len - len / 2)
      enough = at-least-half count reads len (len - len / 2) (omega arith) left.enough

      by : (b : Bool) → nat_le (start (first + len / 2)) limit ≡ b → next ≡ first + len / 2 * (if b then 1 else 0) → IsLeft count start limit next (len - len / 2) (reads + 1)
      by true low at = let there : next ≡ first + len / 2 = omega arith in rw there (record {
        some = omega arith;
        within = omega (arith, left.within);
        fits = left.fits;
        below = λ place before.
            let step = in-order place (first + len / 2) (omega arith) (omega (arith, left.within)) in
            let reached : start (first + len / 2) ≤ limit = grind (arith, nat_tests) in
            omega arith;
        above = λ place after inside. left.above place (omega arith) inside;
        few = few;
        enough = enough;
      })
      by false high at = let there : next ≡ first = omega arith in rw there (record {
        some = omega arith;
        within = omega (arith, left.within);
        fits = left.fits;
        below = left.below;
        above = λ place after inside.
            let step = in-order (first + len / 2) place (omega arith) inside in
            let missed : limit < start (first + len / 2) = grind (arith, nat_tests) in
            omega arith;
        few = few;
        enough = enough;
      })

-- .. by a branch
pub by-branch : (first half more n limit : ℕ) → (if nat_le n limit then half else 0) ≡ more → first + more ≡ first + half * (if nat_le n limit then 1 else 0)
by-branch first half more n limit is = by (nat_le n limit) is
  where
    by : (b : Bool) → (if b then half else 0) ≡ more → first + more ≡ first + half * (if b then 1 else 0)
    by true is = omega arith
    by false is = omega arith

-- ---- the starts of items

module _ {X : Type 0} (start : X → ℕ) (items : List X) where
  start-at : (place : ℕ) (d : X) → place < length items → start_of start items place ≡ start (get_or items place d)
  start-at place d within = get_or-map start items place d 0 within

  -- items in the order of their starts have sorted starts
  pub sorted-items : IsNonDecreasingBy start items → AreSorted (length items) (start_of start items)
  sorted-items up place within = by items refl
    where
      by : (all : List X) → items ≡ all → start_of start items place ≤ start_of start items (place + 1)
      by [] is = absurd (omega (arith, ap length is))
      by (d ∷ all) is = rw (start-at place d (omega arith), start-at (place + 1) d within) (up place (place + 1) d (omega arith) within)

  -- .. and what parts these parts the items
  pub parted-items : (limit parted : ℕ) → Parts (length items) (start_of start items) limit parted
      → IsPartitionPoint (λ item. start item ≤ limit) (λ item. limit < start item) items parted
  parted-items limit parted parts = (
    λ place d from to. rw (← start-at place d (omega (arith, parts.bound))) (parts.below place to),
    λ place d from to. rw (← start-at place d to) (parts.above place from to),
  )
