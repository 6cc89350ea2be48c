-- The row that contains an address: the first by a pass, and the last that begins at or below it.
use Rattle.std.proofs.Common.{◌≡◌, ℕ, zero, suc, ◌+◌, ◌-◌, ◌<◌, ◌≤◌, Bool, true, false, if◌then◌else◌, List, refl, ap, sym, ◌∙◌, arith}
use Rattle.std.specs.Prelude.{nat_le, nat_lt, ◌&&◌, Option, Some, None}
use Rattle.std.proofs.lemmas.Bool.Decides.{nat_tests}
use Rattle.framehop_pe.specs.Rows.{IsIncreasing, begin_at, end_at, first_number, first_row, pdata_rows, row_contains}

-- ---- the first number with a test

-- none of so many
pub first-none : (n from : ℕ) (test : ℕ → Bool) → ((k : ℕ) → from ≤ k → k < from + n → test k ≡ false) → first_number n from test ≡ None
unfolding first_number
first-none zero from test never = refl
first-none (suc n) from test never = rw (never from (omega arith) (omega arith)) (first-none n (from + 1) test (λ k a b. never k (omega arith) (omega arith)))

-- the one that is the first
pub first-found : (d n from at : ℕ) (test : ℕ → Bool) → at ≡ from + d → d < n → ((k : ℕ) → from ≤ k → k < at → test k ≡ false) → test at ≡ true → first_number n from test ≡ Some at
unfolding first_number
first-found d zero from at test is within before here = absurd (omega arith)
first-found zero (suc n) from at test is within before here =
    let same : from ≡ at = omega arith in
    let yes : test from ≡ true = ap test same ∙ here in
    rw yes (ap (λ (k : ℕ). Some k) same)
first-found (suc d) (suc n) from at test is within before here =
    rw (before from (omega arith) (omega arith)) (first-found d n (from + 1) at test (omega arith) (omega arith) (λ k a b. before k (omega arith) b) here)

-- ---- rows that increase

module _ (bytes : List ℕ) (up : IsIncreasing bytes) where
  begins-from : (d i : ℕ) → i + d < pdata_rows bytes → begin_at bytes i ≤ begin_at bytes (i + d)
  begins-from zero i within = let same : i + 0 ≡ i = omega arith in rw same (omega arith)
  begins-from (suc d) i within =
      let one : i + suc d ≡ i + 1 + d = omega arith in
      let step = (up i (omega arith)).0 in
      let more = begins-from d (i + 1) (omega arith) in
      rw one (omega arith)

  pub begins-up : (i j : ℕ) → i ≤ j → j < pdata_rows bytes → begin_at bytes i ≤ begin_at bytes j
  begins-up i j low high =
      let there : i + (j - i) ≡ j = omega arith in
      let more = begins-from (j - i) i (omega arith) in
      rw there at more

  -- a row before another ends at or below its begin
  pub ends-before : (i j : ℕ) → i < j → j < pdata_rows bytes → end_at bytes i ≤ begin_at bytes j
  ends-before i j low high = let step = (up i (omega arith)).1 in let rest = begins-up (i + 1) j (omega arith) high in omega arith

  module _ (address : ℕ) where
    -- a row that begins above the address doesn't contain it
    above-lacks : (row : ℕ) → address < begin_at bytes row → row_contains bytes address row ≡ false
    above-lacks row high = grind (arith, nat_tests)

    -- nor does one that ends at or below it
    below-lacks : (row : ℕ) → end_at bytes row ≤ address → row_contains bytes address row ≡ false
    below-lacks row low = by (nat_le (begin_at bytes row) address)
      where
        by : (b : Bool) → (b && nat_lt address (end_at bytes row)) ≡ false
        by true = grind (arith, nat_tests)
        by false = refl

    -- the last row that begins at or below the address contains it, or none does
    pub found-at : (low : ℕ) → low < pdata_rows bytes → begin_at bytes low ≤ address
        → ((row : ℕ) → low + 1 ≤ row → row < pdata_rows bytes → address < begin_at bytes row)
        → (if row_contains bytes address low then Some low else None) ≡ first_number (pdata_rows bytes) 0 (row_contains bytes address)
    found-at low within begun after = by (row_contains bytes address low) refl
      where
        before : (k : ℕ) → k < low → row_contains bytes address k ≡ false
        before k earlier = let end = ends-before k low earlier within in below-lacks k (omega arith)

        missed : row_contains bytes address low ≡ false → (k : ℕ) → k < pdata_rows bytes → row_contains bytes address k ≡ false
        missed not k inside = elim (nat_lt k low) as (λ b. nat_lt k low ≡ b → row_contains bytes address k ≡ false) [
          | true ↦ λ earlier. before k (grind (arith, nat_tests))
          | false ↦ λ later. elim (nat_lt low k) as (λ b. nat_lt low k ≡ b → row_contains bytes address k ≡ false) [
            | true ↦ λ above. let past : low < k = grind (arith, nat_tests) in above-lacks k (after k (omega arith) inside)
            | false ↦ λ same. let is : k ≡ low = grind (arith, nat_tests) in ap (λ (r : ℕ). row_contains bytes address r) is ∙ not
          ] refl
        ] refl

        by : (b : Bool) → row_contains bytes address low ≡ b → (if b then Some low else None) ≡ first_number (pdata_rows bytes) 0 (row_contains bytes address)
        by true is = sym (first-found low (pdata_rows bytes) 0 low (row_contains bytes address) (omega arith) within (λ k a b. before k b) is)
        by false is = sym (first-none (pdata_rows bytes) 0 (row_contains bytes address) (λ k a b. missed is k (omega arith)))

    -- if all begin above the address none contains it
    pub found-none : ((row : ℕ) → 0 ≤ row → row < pdata_rows bytes → address < begin_at bytes row) → None ≡ first_number (pdata_rows bytes) 0 (row_contains bytes address)
    found-none above = sym (first-none (pdata_rows bytes) 0 (row_contains bytes address) (λ k a b. above-lacks k (above k (omega arith) (omega arith))))

-- a pass goes on after a row that doesn't contain the address
pub pass-on : (n from : ℕ) (test : ℕ → Bool) (all : Option ℕ) → from < n → test from ≡ false → first_number (n - from) from test ≡ all → first_number (n - (from + 1)) (from + 1) test ≡ all
unfolding first_number
pass-on n from test all within not so_far =
    let one : n - from ≡ suc (n - (from + 1)) = omega arith in
    let here : first_number (suc (n - (from + 1))) from test ≡ first_number (n - (from + 1)) (from + 1) test = rw not refl in
    sym here ∙ ap (λ (m : ℕ). first_number m from test) (sym one) ∙ so_far

pub pass-here : (n from : ℕ) (test : ℕ → Bool) (all : Option ℕ) → from < n → test from ≡ true → first_number (n - from) from test ≡ all → Some from ≡ all
unfolding first_number
pass-here n from test all within found so_far =
    let one : n - from ≡ suc (n - (from + 1)) = omega arith in
    let here : first_number (suc (n - (from + 1))) from test ≡ Some from = rw found refl in
    sym here ∙ ap (λ (m : ℕ). first_number m from test) (sym one) ∙ so_far

pub pass-end : (n from : ℕ) (test : ℕ → Bool) (all : Option ℕ) → n ≤ from → first_number (n - from) from test ≡ all → None ≡ all
unfolding first_number
pass-end n from test all past so_far =
    let none : n - from ≡ 0 = omega arith in
    let here : first_number 0 from test ≡ None = refl in
    sym here ∙ ap (λ (m : ℕ). first_number m from test) (sym none) ∙ so_far

-- ---- what is found

found-here : (from found : ℕ) (b : Bool) (later : Option ℕ) → b ≡ true → (if b then Some from else later) ≡ Some found → from ≡ found
found-here from found true later here is = cc
found-here from found false later here is = cc

found-later : (from found : ℕ) (b : Bool) (later : Option ℕ) → b ≡ false → (if b then Some from else later) ≡ Some found → later ≡ Some found
found-later from found true later not is = cc
found-later from found false later not is = is

-- the number that is found
pub number-found : (n from found : ℕ) (test : ℕ → Bool) → first_number n from test ≡ Some found → (found < from + n) × (test found ≡ true)
unfolding first_number
number-found zero from found test is = cc
number-found (suc n) from found test is = elim (test from) as (λ b. test from ≡ b → (found < from + suc n) × (test found ≡ true)) [
  | true ↦ λ here. let same = found-here from found (test from) (first_number n (from + 1) test) here is in (omega (arith, same), ap test (sym same) ∙ here)
  | false ↦ λ not. let more = number-found n (from + 1) found test (found-later from found (test from) (first_number n (from + 1) test) not is) in (omega (arith, more.0), more.1)
] refl

pub record IsFoundRow (bytes : List ℕ) (address row : ℕ) : Type 0 where
  pub within : row < pdata_rows bytes
  pub begin : begin_at bytes row ≤ address
  pub end : address < end_at bytes row

pub row-found : (bytes : List ℕ) (address row : ℕ) → first_row bytes address ≡ Some row → IsFoundRow bytes address row
row-found bytes address row is =
    let (within, contains) = number-found (pdata_rows bytes) 0 row (row_contains bytes address) is in
    record { within = omega (arith, within); begin = grind (arith, nat_tests, contains); end = grind (arith, nat_tests, contains) }
