-- Rows from one index on, cut at another.
use Rattle.std.proofs.Common.{◌≡◌, ℕ, zero, suc, ◌+◌, ◌∷◌, length, take, drop, refl, ap, arith}
use Rattle.dwarf_call_frames.specs.HeaderTable.{rows_between}
use Rattle.dwarf_call_frames.specs.Halving.{TableRow}

pub length-between : (row : ℕ → TableRow) (first n : ℕ) → length (rows_between row first n) ≡ n
length-between row first zero = refl
length-between row first (suc n) = ap suc (length-between row (suc first) n)

pub take-between : (row : ℕ → TableRow) (first n m : ℕ) → take n (rows_between row first (n + m)) ≡ rows_between row first n
take-between row first zero m = refl
take-between row first (suc n) m =
    let next : suc n + m ≡ suc (n + m) = omega arith in
    rw next (ap (λ rows. row first ∷ rows) (take-between row (suc first) n m))

pub drop-between : (row : ℕ → TableRow) (first n m : ℕ) → drop n (rows_between row first (n + m)) ≡ rows_between row (first + n) m
drop-between row first zero m = let none : 0 + m ≡ m = omega arith in let here : first + 0 ≡ first = omega arith in rw (none, here) refl
drop-between row first (suc n) m =
    let next : suc n + m ≡ suc (n + m) = omega arith in
    let place : first + suc n ≡ suc first + n = omega arith in
    rw (next, place) (drop-between row (suc first) n m)
