-- The first range that contains an address, in a list and in one that increases.
use Rattle.std.proofs.Common.{◌≡◌, ℕ, zero, suc, ◌+◌, ◌-◌, ◌<◌, ◌≤◌, Bool, true, false, ◌&&◌, List, [], ◌∷◌, length, get_or, refl, ap, sym, ◌∙◌, arith}
use Rattle.std.specs.Prelude.{nat_le, nat_lt, Some, None}
use Rattle.std.specs.List.{find}
use Rattle.std.specs.List.Sorted.{IsPartitionedBy}
use Rattle.std.proofs.lemmas.Bool.Decides.{nat_tests}
use Rattle.std.proofs.lemmas.List.{get_or_default}
use Rattle.list_laws.proofs.Laws.{by_case}
use Rattle.core_files.specs.Ranges.{KnownRange, contains, range_at, BeginAtOrBelow, IsBefore, IsIncreasing}

-- ---- tests

both : (x y : Bool) → (x && y) ≡ true → (x ≡ true) × (y ≡ true)
both true true h = (refl, refl)
both true false h = cc
both false y h = cc

never : (x : Bool) → (x && false) ≡ false
never true = refl
never false = refl

-- what it means that a range contains an address
pub contains-is : (range : KnownRange) (address : ℕ) → contains address range ≡ true → (range.address ≤ address) × (address < range.address + range.size)
contains-is range address is =
    let parts = both (nat_le range.address address) (nat_lt address (range.address + range.size)) is in
    let low : nat_le range.address address ≡ true = parts.0 in
    let high : nat_lt address (range.address + range.size) ≡ true = parts.1 in
    (grind (arith, nat_tests), grind (arith, nat_tests))

pub is-contained : (range : KnownRange) (address : ℕ) → range.address ≤ address → address < range.address + range.size → contains address range ≡ true
is-contained range address low high =
    let first : nat_le range.address address ≡ true = grind (arith, nat_tests) in
    let second : nat_lt address (range.address + range.size) ≡ true = grind (arith, nat_tests) in
    rw (first, second) refl

ends-before : (range : KnownRange) (address : ℕ) → range.address + range.size ≤ address → contains address range ≡ false
ends-before range address h =
    let second : nat_lt address (range.address + range.size) ≡ false = grind (arith, nat_tests) in
    rw second (never (nat_le range.address address))

begins-after : (range : KnownRange) (address : ℕ) → nat_le range.address address ≡ false → contains address range ≡ false
begins-after range address h = rw h refl

-- ---- the first that passes a test

module _ {A : Type 0} (test : A → Bool) where
  find-first : (xs : List A) (i : ℕ) (d : A) → i < length xs → ((k : ℕ) (e : A) → k < i → test (get_or xs k e) ≡ false) → test (get_or xs i d) ≡ true → find test xs ≡ Some (get_or xs i d)
  find-first [] i d within before here = absurd (omega arith)
  find-first (x ∷ xs) zero d within before here = rw here refl
  find-first (x ∷ xs) (suc i) d within before here =
      let head : test x ≡ false = before 0 x (omega arith) in
      rw head (find-first xs i d (omega arith) (λ k e h. before (suc k) e (omega arith)) here)

  find-none : (xs : List A) → ((k : ℕ) (e : A) → k < length xs → test (get_or xs k e) ≡ false) → find test xs ≡ None
  find-none [] none = refl
  find-none (x ∷ xs) none =
      let head : test x ≡ false = none 0 x (omega arith) in
      rw head (find-none xs (λ k e h. none (suc k) e (omega arith)))

  find-at : (xs : List A) (x : A) → find test xs ≡ Some x → (i : ℕ) × (i < length xs) × ((d : A) → get_or xs i d ≡ x) × (test x ≡ true)
  find-at [] x h = cc
  find-at (y ∷ ys) x h =
      by_case (test y)
      (λ is. let same : Some y ≡ Some x = rw is at h in let one : y ≡ x = cc in (0, omega arith, λ d. one, ap test (sym one) ∙ is))
      (λ is.
      let found = find-at ys x (rw is at h) in
      (suc found.0, omega (arith, found.1), λ d. found.2 d, found.3))

-- by a pass: what is left
pub pass-here : (ranges : List KnownRange) (address i : ℕ) (d : KnownRange) → i < length ranges → ((k : ℕ) (e : KnownRange) → k < i → contains address (get_or ranges k e) ≡ false)
    → contains address (get_or ranges i d) ≡ true → range_at ranges address ≡ Some (get_or ranges i d)
unfolding range_at
pass-here ranges address i d within before here = find-first (contains address) ranges i d within before here

pub pass-end : (ranges : List KnownRange) (address : ℕ) → ((k : ℕ) (e : KnownRange) → k < length ranges → contains address (get_or ranges k e) ≡ false) → range_at ranges address ≡ None
unfolding range_at
pass-end ranges address none = find-none (contains address) ranges none

-- ---- ranges that increase

module _ (ranges : List KnownRange) (up : IsIncreasing ranges) where
  far : (n i : ℕ) (d : KnownRange) → i + suc n < length ranges → IsBefore (get_or ranges i d) (get_or ranges (i + suc n) d)
  far zero i d within = up i d within
  far (suc n) i d within =
      let before = far n i d (omega arith) in
      let next = up (i + suc n) d (omega arith) in
      let at : (get_or ranges (i + suc n + 1) d).address ≡ (get_or ranges (i + suc (suc n)) d).address = ap (λ (k : ℕ). (get_or ranges k d).address) (omega arith) in
      omega (arith, before, next, at)

  -- each range ends before all after it
  before-all : (i j : ℕ) (d : KnownRange) → i < j → j < length ranges → IsBefore (get_or ranges i d) (get_or ranges j d)
  before-all i j d less within =
      let at : i + suc (j - i - 1) ≡ j = omega arith in
      let before = far (j - i - 1) i d (omega arith) in
      let same : (get_or ranges (i + suc (j - i - 1)) d).address ≡ (get_or ranges j d).address = ap (λ (k : ℕ). (get_or ranges k d).address) at in
      omega (arith, before, same)

  pub starts-in-order : (address : ℕ) → IsPartitionedBy (λ range. nat_le range.address address) ranges
  starts-in-order address i j d le within low =
      by_case (nat_lt i j)
      (λ is.
      let less : i < j = grind (arith, nat_tests) in
      let before = before-all i j d less within in
      let high : (get_or ranges j d).address ≤ address = grind (arith, nat_tests) in
      let enough : (get_or ranges i d).address ≤ address = omega (arith, before, high) in
      grind (arith, nat_tests))
      (λ is.
      let not : j ≤ i = grind (arith, nat_tests) in
      let same : i ≡ j = omega arith in
      ap (λ (k : ℕ). nat_le (get_or ranges k d).address address) same ∙ low)

  -- those before a range that begins at an address or below don't contain it
  passed : (address j : ℕ) (d : KnownRange) → j < length ranges → (get_or ranges j d).address ≤ address → (k : ℕ) (e : KnownRange) → k < j → contains address (get_or ranges k e) ≡ false
  passed address j d within low k e less =
      let before = before-all k j e less within in
      let same : (get_or ranges j e).address ≡ (get_or ranges j d).address = ap (λ (r : KnownRange). r.address) (get_or_default ranges j e d within) in
      ends-before (get_or ranges k e) address (omega (arith, before, same, low))

  module _ (address count : ℕ) (bound : count ≤ length ranges) (point : BeginAtOrBelow ranges address count) where
    pub halves-none : count ≡ 0 → range_at ranges address ≡ None
    halves-none none = pass-end ranges address (λ k e h. begins-after (get_or ranges k e) address (point.1 k e (omega arith) h))

    module _ (some : 0 < count) (d : KnownRange) where
      begins : (get_or ranges (count - 1) d).address ≤ address
      begins = let is : nat_le (get_or ranges (count - 1) d).address address ≡ true = point.0 (count - 1) d (omega arith) (omega arith) in grind (arith, nat_tests)

      pub halves-here : contains address (get_or ranges (count - 1) d) ≡ true → range_at ranges address ≡ Some (get_or ranges (count - 1) d)
      halves-here here = pass-here ranges address (count - 1) d (omega arith) (passed address (count - 1) d (omega arith) begins) here

      pub halves-missed : contains address (get_or ranges (count - 1) d) ≡ false → range_at ranges address ≡ None
      halves-missed not = pass-end ranges address (λ k e h.
          by_case (nat_lt k count)
          (λ is.
          let low : k < count = grind (arith, nat_tests) in
          by_case (nat_lt k (count - 1))
          (λ before. let less : k < count - 1 = grind (arith, nat_tests) in passed address (count - 1) d (omega arith) begins k e less)
          (λ last.
          let at : k ≡ count - 1 = let high : count - 1 ≤ k = grind (arith, nat_tests) in omega arith in
          ap (contains address) (ap (λ (i : ℕ). get_or ranges i e) at ∙ get_or_default ranges (count - 1) e d (omega arith)) ∙ not))
          (λ is. let high : count ≤ k = grind (arith, nat_tests) in begins-after (get_or ranges k e) address (point.1 k e high h)))

  -- the range that contains an address is found at each address that it contains
  pub found-again : (range : KnownRange) (address other : ℕ) → range_at ranges address ≡ Some range → range.address ≤ other → other < range.address + range.size → range_at ranges other ≡ Some range
  unfolding range_at
  found-again range address other found low high =
      let at = find-at (contains address) ranges range found in
      let is : get_or ranges at.0 range ≡ range = at.2 range in
      let begins : (get_or ranges at.0 range).address ≤ other = rw is low in
      find-first (contains other) ranges at.0 range at.1 (passed other at.0 range at.1 begins) (rw is (is-contained range other low high)) ∙ ap Some is
