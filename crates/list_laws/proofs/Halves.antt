-- How many elements a search by halves compares. Each lemma is a clause of `halves_are_counted`.
use Rattle.std.proofs.Common.{◌≡◌, ℕ, zero, suc, ◌+◌, ◌-◌, ◌/◌, ◌^◌, ◌<◌, ◌≤◌, refl, arith}
use Rattle.std.proofs.lemmas.Nat.{pow_pos}
use Rattle.std.proofs.Math.Nat.{two-pow-succ, sub-zero}
use Rattle.list_laws.specs.Halves.{AtMostHalved, AtLeastHalved, StaysAtLeastHalved, StaysAtMostHalved}

-- nothing is compared yet
pub at-most-none : (all : ℕ) → AtMostHalved all 0 all
at-most-none all k h = (omega arith, rw (sub-zero k) h)

pub at-least-none : (all : ℕ) → AtLeastHalved all 0 all
at-least-none all k h = rw (sub-zero k) h

-- one comparison more leaves half at most
pub at-most-half : StaysAtMostHalved
at-most-half all compared left next some half before k h = let (few, below) = before k h in by (k - compared) refl few below
  where
    by : (j : ℕ) → k - compared ≡ j → compared ≤ k → left ≤ 2 ^ j → (compared + 1 ≤ k) × (next ≤ 2 ^ (k - (compared + 1)))
    by zero e few below = absurd (omega arith)
    by (suc j) e few below =
        let less : k - (compared + 1) ≡ j = omega arith in
        let double : left ≤ 2 ^ j + 2 ^ j = rw (← two-pow-succ j) below in
        let within : next ≤ 2 ^ j = omega arith in
        (omega arith, rw less within)

-- and half of the others at least
pub at-least-half : StaysAtLeastHalved
at-least-half all compared left next half before k h = by (k - compared) refl (before k h)
  where
    by : (j : ℕ) → k - compared ≡ j → 2 ^ j ≤ suc left → 2 ^ (k - (compared + 1)) ≤ suc next
    by zero e above = let less : k - (compared + 1) ≡ 0 = omega arith in rw less (omega arith)
    by (suc j) e above =
        let less : k - (compared + 1) ≡ j = omega arith in
        let double : 2 ^ j + 2 ^ j ≤ suc left = rw (← two-pow-succ j) above in
        let within : 2 ^ j ≤ suc next = omega arith in
        rw less within

-- once none is left, enough were compared
pub enough-none-left : (all compared k : ℕ) → AtLeastHalved all compared 0 → 2 ^ k ≤ suc all → k ≤ compared
enough-none-left all compared k before h = by (k - compared) refl (before k h)
  where
    by : (j : ℕ) → k - compared ≡ j → 2 ^ j ≤ 1 → k ≤ compared
    by zero e above = omega arith
    by (suc j) e above =
        let double : 2 ^ j + 2 ^ j ≤ 1 = rw (← two-pow-succ j) above in
        absurd (omega (arith, double, pow_pos j))

-- once one is left, all but it
pub enough-one-left : (all compared k : ℕ) → AtLeastHalved all compared 1 → 2 ^ k ≤ suc all → k ≤ compared + 1
enough-one-left all compared k before h = enough-none-left all (compared + 1) k (at-least-half all compared 1 0 (omega arith) before) h
