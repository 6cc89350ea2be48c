-- Bytes that are stored back to front, as the bytes of a section.
use Rattle.std.proofs.Common.{◌≡◌, ℕ, ◌+◌, ◌-◌, ◌==◌, List, [], ◌∷◌, ◌++◌, length, take, drop, reverse, Bool, true, false, cond, not, Option, Some, None, option_map, Ok, suc, nat_lt, refl, ap, sym, ◌∙◌, arith}
use Rattle.std.specs.List.{position, prefix_len}
use Rattle.std.proofs.lemmas.Bool.Decides.{nat_tests}
use Rattle.std.proofs.lemmas.List.{reverse-append, length-reverse, length-drop, take-append-drop, take_at, take_rest, drop_at}
use Prim.Native.Nat.compare
use Rattle.dwarf_readers.specs.Stretch.{behind_at, count_before, prefix_at}

-- the bytes behind the first m, and before them those m
cut : (m : ℕ) (xs : List ℕ) → reverse xs ≡ reverse (drop m xs) ++ reverse (take m xs)
cut m xs = ap reverse (sym (take-append-drop m xs)) ∙ reverse-append (take m xs) (drop m xs)

cut_size : (m n : ℕ) (xs : List ℕ) → m + n ≡ length xs → length (reverse (drop m xs)) ≡ n
cut_size m n xs whole = omega (arith, length-reverse (drop m xs), length-drop m xs)

-- the first n bytes are the last that are stored
take_reversed : (m n : ℕ) (xs : List ℕ) → m + n ≡ length xs → take n (reverse xs) ≡ reverse (drop m xs)
take_reversed m n xs whole = ap (take n) (cut m xs) ∙ take_at (reverse (drop m xs)) (reverse (take m xs)) n (cut_size m n xs whole)

-- and what is left behind them are the others
drop_reversed : (m n : ℕ) (xs : List ℕ) → m + n ≡ length xs → drop n (reverse xs) ≡ reverse (take m xs)
drop_reversed m n xs whole = ap (drop n) (cut m xs) ∙ drop_at (reverse (drop m xs)) (reverse (take m xs)) n (cut_size m n xs whole)

there : (m n : ℕ) (xs : List ℕ) → m + n ≡ length xs → nat_lt (length (reverse xs)) n ≡ false
there m n xs whole = let size : length (reverse xs) ≡ length xs = length-reverse xs in grind (arith, nat_tests)

pub skipped : (m n k : ℕ) (xs : List ℕ) (offset : ℕ) (big : Bool) → m + n ≡ length xs → k ≡ n → behind_at n (record { bytes = reverse xs; offset = offset; big = big }) ≡ Ok (record { bytes = reverse (take m xs); offset = offset + k; big = big })
skipped m n k xs offset big whole same = rw (there m n xs whole, drop_reversed m n xs whole, same) refl

pub truncated : (m n : ℕ) (xs : List ℕ) (offset : ℕ) (big : Bool) → m + n ≡ length xs → prefix_at n (record { bytes = reverse xs; offset = offset; big = big }) ≡ Ok (record { bytes = reverse (take (length xs - m) (drop m xs)); offset = offset; big = big })
truncated m n xs offset big whole = rw (there m n xs whole, take_reversed m n xs whole, take_rest xs m) refl

-- one byte further
later : (found : Bool) (n : ℕ) → cond found (Some (suc n)) None ≡ option_map suc (cond found (Some n) None)
later true n = refl
later false n = refl

one_more : (here : Bool) (n size : ℕ) (rest : Option ℕ) → cond (nat_lt n size) (Some n) None ≡ rest → cond (nat_lt (cond (not here) (1 + n) 0) (suc size)) (Some (cond (not here) (1 + n) 0)) None ≡ cond here (Some 0) (option_map suc rest)
one_more true n size rest same =
    let inside : nat_lt 0 (suc size) ≡ true = grind (arith, nat_tests) in
    rw inside refl
one_more false n size rest same =
    let more : 1 + n ≡ suc n = omega arith in
    rw (more, compare.suc-suc) (later (nat_lt n size) n ∙ ap (option_map suc) same)

-- the index of the first such byte
pub position_is_count : (byte : ℕ) (xs : List ℕ) → position (λ b. b == byte) xs ≡ count_before byte xs
position_is_count byte [] = refl
position_is_count byte (x ∷ xs) = one_more (x == byte) (prefix_len (λ b. not (b == byte)) xs) (length xs) (count_before byte xs) (position_is_count byte xs)
