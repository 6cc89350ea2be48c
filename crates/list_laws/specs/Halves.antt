-- A search by halves: each comparison with an element leaves about half of the others to search.
use Rattle.std.specs.Prelude.{ℕ, suc, ◌+◌, ◌-◌, ◌/◌, ◌^◌, ◌<◌, ◌≤◌}

-- Of a list of at most 2^k elements at most k were compared, and each halved what was left, rounded up.
abbrev pub AtMostHalved : (all compared left : ℕ) → Type 0
AtMostHalved all compared left = (k : ℕ) → all ≤ 2 ^ k → (compared ≤ k) × (left ≤ 2 ^ (k - compared))

-- Of a list of at least 2^k - 1 elements each that was compared left half of the others, rounded down.
abbrev pub AtLeastHalved : (all compared left : ℕ) → Type 0
AtLeastHalved all compared left = (k : ℕ) → 2 ^ k ≤ suc all → 2 ^ (k - compared) ≤ suc left

-- One comparison more, which leaves at most half, rounded up.
abbrev pub StaysAtMostHalved : Type 0
StaysAtMostHalved = (all compared left next : ℕ) → 1 < left → next ≤ left - left / 2
    → AtMostHalved all compared left → AtMostHalved all (compared + 1) next

-- One comparison more, which leaves at least half of the others, rounded down.
abbrev pub StaysAtLeastHalved : Type 0
StaysAtLeastHalved = (all compared left next : ℕ) → suc left / 2 ≤ suc next
    → AtLeastHalved all compared left → AtLeastHalved all (compared + 1) next
