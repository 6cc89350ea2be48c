-- Bytes that are all 0, and bytes after them.
use Rattle.std.proofs.Common.{◌≡◌, ℕ, zero, suc, ◌+◌, ◌<◌, ◌≤◌, Bool, true, false, ◌&&◌, List, [], ◌∷◌, ◌++◌, length, drop, replicate, bit_or, refl, ap, sym, ◌∙◌, arith, append_assoc}
use Rattle.std.proofs.Math.Seq.{drop-cons}
use Rattle.std.specs.Prelude.{◌==◌, slice_index_or}
use Rattle.std.specs.Int.Bits.{or_zero_l}
use Rattle.std.proofs.lemmas.Nat.{le_or_l}
use Rattle.std.proofs.lemmas.Bool.Decides.{nat_tests}
use Rattle.std.proofs.lemmas.List.{append-nil, drop_all, replicate-append-replicate}
use Rattle.core_files.specs.Ranges.{after_zeros}
use Rattle.core_files.specs.SegmentViews.{all_zero}

-- ---- bits of several bytes

or-is-zero : (a b : ℕ) → (bit_or a b == 0) ≡ ((a == 0) && (b == 0))
or-is-zero zero b = rw (or_zero_l b) refl
or-is-zero (suc a) b =
    let low = le_or_l (suc a) b in
    let some : (suc a == 0) ≡ false = grind (arith, nat_tests) in
    let is : (bit_or (suc a) b == 0) ≡ false = grind (arith, nat_tests) in
    rw (is, some) refl

and_assoc : (x y z : Bool) → ((x && y) && z) ≡ (x && (y && z))
and_assoc true y z = refl
and_assoc false y z = refl

-- the next byte
pub zero-next : (block : List ℕ) (any at : ℕ) → at < length block → ((any == 0) && all_zero (drop at block)) ≡ ((bit_or any (slice_index_or block at 0) == 0) && all_zero (drop (at + 1) block))
unfolding all_zero
zero-next block any at within =
    let byte : ℕ = slice_index_or block at 0 in
    let left : drop at block ≡ byte ∷ drop (at + 1) block = drop-cons block at 0 within ∙ ap (λ (n : ℕ). byte ∷ drop n block) (let same : suc at ≡ at + 1 = omega arith in same) in
    rw (left, or-is-zero any byte) (sym (and_assoc (any == 0) (byte == 0) (all_zero (drop (at + 1) block))))

-- no byte is left
and_true : (x : Bool) → (x && true) ≡ x
and_true true = refl
and_true false = refl

pub zero-end : (block : List ℕ) (any at : ℕ) → length block ≤ at → ((any == 0) && all_zero (drop at block)) ≡ (any == 0)
unfolding all_zero
zero-end block any at end = rw (drop_all at block end) (and_true (any == 0))

-- ---- a block more

both : (x y : Bool) → (x && y) ≡ true → (x ≡ true) × (y ≡ true)
both true y h = (refl, h)
both false y h = cc

zeros-are : (bytes : List ℕ) → all_zero bytes ≡ true → bytes ≡ replicate (length bytes) 0
unfolding all_zero
zeros-are [] is = refl
zeros-are (byte ∷ bytes) is =
    let (first, others) = both (byte == 0) (all_zero bytes) is in
    let zero-byte : byte ≡ 0 = grind (arith, nat_tests) in
    let left = zeros-are bytes others in
    cc

-- .. of zeros
pub zeros-added : (zeros sum : ℕ) (kept block : List ℕ) → kept ≡ [] → all_zero block ≡ true → sum ≡ zeros + length block → after_zeros sum kept ≡ after_zeros zeros kept ++ block
zeros-added zeros sum kept block none is size =
    rw (none, size)
    (append-nil (replicate (zeros + length block) 0) ∙ sym (replicate-append-replicate zeros (length block) 0)
    ∙ ap (λ (xs : List ℕ). replicate zeros 0 ++ xs) (sym (zeros-are block is)) ∙ ap (λ (xs : List ℕ). xs ++ block) (sym (append-nil (replicate zeros 0))))

-- .. of others
pub bytes-added : (zeros : ℕ) (kept block : List ℕ) → after_zeros zeros (kept ++ block) ≡ after_zeros zeros kept ++ block
bytes-added zeros kept block = sym (append_assoc (replicate zeros 0) kept block)
