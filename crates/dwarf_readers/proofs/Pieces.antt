-- Parts and counts of two lists, one behind the other.
use Rattle.std.proofs.Common.{◌≡◌, ℕ, ◌+◌, ◌-◌, ◌≤◌, ◌==◌, List, [], ◌∷◌, ◌++◌, length, take, drop, min, Bool, true, false, cond, Option, Some, None, option_map, suc, refl, ap, sym, ◌∙◌, inl, inr, arith}
use Rattle.std.proofs.lemmas.Bool.{cases_lt}
use Rattle.std.proofs.lemmas.List.{append-nil, drop-append-le, take-append-le}
use Rattle.std.proofs.Math.Seq.{drop-append-add, drop-length, take-append-add, take-length}
use Rattle.dwarf_readers.specs.Stretch.{count_before}
use Rattle.dwarf_readers.proofs.Places.{later}

take_over : (n : ℕ) (xs ys : List ℕ) → length xs ≤ n → take n (xs ++ ys) ≡ xs ++ take (n - length xs) ys
take_over n xs ys over =
    let e : n ≡ length xs + (n - length xs) = omega arith in
    ap (λ (k : ℕ). take k (xs ++ ys)) e ∙ take-append-add xs ys (n - length xs)

drop_over : (n : ℕ) (xs ys : List ℕ) → length xs ≤ n → drop n (xs ++ ys) ≡ drop (n - length xs) ys
drop_over n xs ys over =
    let e : n ≡ length xs + (n - length xs) = omega arith in
    ap (λ (k : ℕ). drop k (xs ++ ys)) e ∙ drop-append-add xs ys (n - length xs)

-- The first n of both are the first m of the one and the rest of the other, where the one has m of them.
pub take_pieces : (n m : ℕ) (xs ys : List ℕ) → m ≡ min n (length xs) → take m xs ++ take (n - m) ys ≡ take n (xs ++ ys)
take_pieces n m xs ys cut = elim (cases_lt (length xs) n) [
  | inl over ↦
      let all : m ≡ length xs = omega arith in
      rw (all, take-length xs) (sym (take_over n xs ys (omega arith)))
  | inr within ↦
      let all : m ≡ n = omega arith in
      let none : n - n ≡ 0 = omega arith in
      rw (all, none, append-nil (take n xs)) (sym (take-append-le n xs ys within))
]

-- .. and what is left behind them
pub drop_pieces : (n m : ℕ) (xs ys : List ℕ) → m ≡ min n (length xs) → drop m xs ++ drop (n - m) ys ≡ drop n (xs ++ ys)
drop_pieces n m xs ys cut = elim (cases_lt (length xs) n) [
  | inl over ↦
      let all : m ≡ length xs = omega arith in
      rw (all, drop-length xs) (sym (drop_over n xs ys (omega arith)))
  | inr within ↦
      let all : m ≡ n = omega arith in
      let none : n - n ≡ 0 = omega arith in
      rw (all, none) (sym (drop-append-le n xs ys within))
]

-- this count, or else the other
abbrev pub first_of : Option ℕ → Option ℕ → Option ℕ
first_of (Some n) other = Some n
first_of None other = other

step : (here : Bool) (n : ℕ) (first second : Option ℕ) → cond here (Some 0) (option_map suc (first_of first (later n second))) ≡ first_of (cond here (Some 0) (option_map suc first)) (later (suc n) second)
step true n first second = refl
step false n (Some m) second = refl
step false n None None = refl
step false n None (Some m) = let e : suc (n + m) ≡ suc n + m = omega arith in ap Some e

from_start : (count : Option ℕ) → count ≡ later 0 count
from_start None = refl
from_start (Some m) = let e : m ≡ 0 + m = omega arith in ap Some e

-- What stands before a value stands before it in the first list, or else the whole first list and some of the second.
pub count_pieces : (byte : ℕ) (xs ys : List ℕ) → count_before byte (xs ++ ys) ≡ first_of (count_before byte xs) (later (length xs) (count_before byte ys))
count_pieces byte [] ys = from_start (count_before byte ys)
count_pieces byte (x ∷ xs) ys = rw (count_pieces byte xs ys) (step (x == byte) (length xs) (count_before byte xs) (count_before byte ys))
