-- The signed values of numbers that were read byte by byte.
use Rattle.std.proofs.Common.{◌≡◌, Bool, ◌||◌, ◌==◌, ◌≢◌, ℕ, ◌+◌, ◌-◌, ◌*◌, ◌%◌, ◌^◌, ◌<◌, ◌≤◌, ◌⊎◌, ◌&&◌, inl, inr, ℤ, pos, negsuc, suc, neg_ℤ, ◌-ℤ◌, List, length, take, slice_index, true, false, Some, None, Ok, Err, int_le, int_lt, nat_le, nat_lt, refl, ap, sym, ◌∙◌, arith, below_more}
use Rattle.std.proofs.lemmas.Bool.{cases_lt}
use Rattle.std.proofs.lemmas.Bool.Decides.{nat_tests}
use Rattle.std.proofs.lemmas.Int.{ints}
use Rattle.std.proofs.lemmas.List.{length-take-le}
use Rattle.std.proofs.Math.Nat.{pow-le-pow_right}
use Rattle.std.specs.Int.{w64, cast_signed}
use Rattle.dwarf_constants.specs.declared.error.Error.{Error}
use Rattle.dwarf_constants.specs.declared.error.Error.TheVariants.{BadSignedLeb128}
use Rattle.dwarf_readers.specs.Groups.{AreGroups, EndsInGroups}
use Rattle.dwarf_readers.specs.Leb128.{signed_at, signed_in_range, signed_value}
use Rattle.dwarf_readers.specs.Stretch.{Stretch}
use Rattle.dwarf_readers.proofs.Strings.{Room, room, seven_bits, number_done, number_long, number_short, number_unfit, sign_of}
use Rattle.dwarf_readers.proofs.Values.{end_of_groups, value_of}

-- the tests of the range
fits_range : (n : ℕ) → n < 2 ^ 63 → (int_le (neg_ℤ (pos (2 ^ 63))) (pos n) && int_lt (pos n) (pos (2 ^ 63))) ≡ true
fits_range n fits = grind (arith, ints, nat_tests)

above_range : (n : ℕ) → 2 ^ 63 ≤ n → (int_le (neg_ℤ (pos (2 ^ 63))) (pos n) && int_lt (pos n) (pos (2 ^ 63))) ≡ false
above_range n large = grind (arith, ints, nat_tests)

fits_below : (n p : ℕ) → n < p → p ≤ n + 2 ^ 63 → (int_le (neg_ℤ (pos (2 ^ 63))) (pos n -ℤ pos p) && int_lt (pos n -ℤ pos p) (pos (2 ^ 63))) ≡ true
fits_below n p less fits = grind (arith, ints, nat_tests)

below_range : (n p : ℕ) → n + 2 ^ 63 < p → (int_le (neg_ℤ (pos (2 ^ 63))) (pos n -ℤ pos p) && int_lt (pos n -ℤ pos p) (pos (2 ^ 63))) ≡ false
below_range n p large = grind (arith, ints, nat_tests)

-- the value of the bytes, by the sign
value_plus : (s t : Stretch) (low last count : ℕ) → AreGroups 10 s low last count t → last < 64 → signed_value (take (count + 1) s.bytes) ≡ pos (low + 128 ^ count * last)
value_plus s t low last count is plus =
    let value = value_of 10 s t low last count is (omega arith) in
    let byte : slice_index s.bytes count % 128 ≡ last = omega (arith, is.byte) in
    let test : nat_le 64 last ≡ false = grind (arith, nat_tests) in
    rw (sign_of s.bytes count is.inside, byte, test, value) refl

value_minus : (s t : Stretch) (low last count : ℕ) → AreGroups 10 s low last count t → 64 ≤ last → last < 128 → signed_value (take (count + 1) s.bytes) ≡ pos (low + 128 ^ count * last) -ℤ pos (128 ^ (count + 1))
value_minus s t low last count is minus end =
    let value = value_of 10 s t low last count is end in
    let byte : slice_index s.bytes count % 128 ≡ last = omega (arith, is.byte) in
    let test : nat_le 64 last ≡ true = grind (arith, nat_tests) in
    let size : length (take (count + 1) s.bytes) ≡ count + 1 = length-take-le (count + 1) s.bytes (omega (arith, is.inside)) in
    rw (sign_of s.bytes count is.inside, byte, test, value, size) refl

in_range : (string : List ℕ) (v : ℤ) → signed_value string ≡ v → (int_le (neg_ℤ (pos (2 ^ 63))) v && int_lt v (pos (2 ^ 63))) ≡ true → signed_in_range string ≡ Some v
in_range string v is test = rw (is, test) refl

out_of_range : (string : List ℕ) (v : ℤ) → signed_value string ≡ v → (int_le (neg_ℤ (pos (2 ^ 63))) v && int_lt v (pos (2 ^ 63))) ≡ false → signed_in_range string ≡ None
out_of_range string v is test = rw (is, test) refl

-- what was read, where its value fits
signed_here : (s t : Stretch) (low last count : ℕ) (v : ℤ) → AreGroups 10 s low last count t → last < 128 → signed_in_range (take (count + 1) s.bytes) ≡ Some v → signed_at s ≡ Ok (v, t)
signed_here s t low last count v is end fits =
    let end_here : slice_index s.bytes count < 128 = omega (arith, is.byte) in
    rw is.rest (number_done 10 BadSignedLeb128 signed_in_range s count v is.within is.inside is.marked end_here fits)

signed_nowhere : (s t : Stretch) (low last count : ℕ) → AreGroups 10 s low last count t → last < 128 → signed_in_range (take (count + 1) s.bytes) ≡ None → signed_at s ≡ Err BadSignedLeb128
signed_nowhere s t low last count is end unfit =
    let end_here : slice_index s.bytes count < 128 = omega (arith, is.byte) in
    number_unfit 10 BadSignedLeb128 signed_in_range s count is.within is.inside is.marked end_here unfit

pub signed_short : (s t : Stretch) (e : Error) → EndsInGroups 10 s e t → signed_at s ≡ Err e
signed_short s t e is = rw is.eof (number_short 10 BadSignedLeb128 signed_in_range s is.few is.marked)

-- a tenth byte that isn't all zeros or all ones
pub signed_refused : (s t : Stretch) (low last count : ℕ) → AreGroups 10 s low last count t → count ≡ 9 → (last ≡ 0 → ⊥) → (last ≡ 127 → ⊥) → signed_at s ≡ Err BadSignedLeb128
signed_refused s t low last count is nine zero ones =
    let power : 128 ^ count ≡ 128 ^ 9 = ap (λ (k : ℕ). 128 ^ k) nine in
    let scaled : 128 ^ count * last ≡ 128 ^ 9 * last = ap (λ (k : ℕ). k * last) power in
    let next : 128 ^ (count + 1) ≡ 128 ^ 10 = ap (λ (k : ℕ). 128 ^ (k + 1)) nine in
    let below : low < 128 ^ 9 = rw power at is.below in
    elim (cases_lt last 64) [
      | inl plus ↦
          signed_nowhere s t low last count is (omega arith)
          (out_of_range (take (count + 1) s.bytes) (pos (low + 128 ^ count * last)) (value_plus s t low last count is plus) (above_range (low + 128 ^ count * last) (omega arith)))
      | inr minus ↦ elim (cases_lt last 128) [
        | inl end ↦
            signed_nowhere s t low last count is end
            (out_of_range (take (count + 1) s.bytes) (pos (low + 128 ^ count * last) -ℤ pos (128 ^ (count + 1))) (value_minus s t low last count is minus end)
            (below_range (low + 128 ^ count * last) (128 ^ (count + 1)) (omega arith)))
        | inr marked ↦
            number_long 10 BadSignedLeb128 signed_in_range s (omega (arith, is.inside))
            (λ k h. below_more (λ k. 128 ≤ slice_index s.bytes k) count is.marked (omega (arith, is.byte)) k (omega arith))
      ]
    ]

-- a group below 64 leaves the sign bit free
plus_fits : (low last count : ℕ) → low < 128 ^ count → last < 64 → count < 10 → (count ≡ 9 → last ≡ 0) → low + 128 ^ count * last < 2 ^ 63
plus_fits low last count below plus within zero = elim (cases_lt count 9) [
  | inl less ↦
      let group : Room low last count = room low last count below (omega arith) (omega arith) in
      omega (arith, group.below, group.fits)
  | inr most ↦
      let nine : count ≡ 9 = omega arith in
      let none : last ≡ 0 = zero nine in
      let low_below : low < 128 ^ 9 = rw nine at below in
      rw (nine, none) (omega arith)
]

-- the sum as the code makes it
pub record Sum (low last count : ℕ) : Type 0 where
  pub shifted : (last * 2 ^ (7 * count)) % 2 ^ 64 ≡ (128 ^ count * last) % 2 ^ 64
  pub fits : low + (128 ^ count * last) % 2 ^ 64 < 2 ^ 64

top_sum : (low last : ℕ) → low < 128 ^ 9 → (last ≡ 0) ⊎ (last ≡ 127) → Sum low last 9
top_sum low last below (inl zero) = rw zero (record { shifted = refl; fits = omega arith })
top_sum low last below (inr ones) = rw ones (record { shifted = refl; fits = omega arith })

pub sum_fits : (low last count : ℕ) → low < 128 ^ count → last < 128 → count < 10 → (count ≡ 9 → (last ≡ 0) ⊎ (last ≡ 127)) → Sum low last count
sum_fits low last count below end within top = elim (cases_lt count 9) [
  | inl less ↦
      let group : Room low last count = room low last count below end (omega arith) in
      let small : (128 ^ count * last) % 2 ^ 64 ≡ 128 ^ count * last = omega (arith, group.below, group.fits) in
      record { shifted = group.shifted ∙ sym small; fits = omega (arith, group.below, group.fits, small) }
  | inr most ↦
      let nine : count ≡ 9 = omega arith in
      let low_below : low < 128 ^ 9 = rw nine at below in
      rw nine (top_sum low last low_below (top nine))
]

-- a number below 2^63 as a signed one
cast_plus : (n : ℕ) → n < 2 ^ 63 → cast_signed w64 n ≡ pos n
cast_plus n fits =
    let test : nat_lt n (2 ^ 63) ≡ true = grind (arith, nat_tests) in
    rw test refl

pub difference : (n p : ℕ) → n < p → pos n -ℤ pos p ≡ negsuc (p - suc n)
difference n p less = omega (arith, ints)

-- a number from 2^63 on as a signed one
cast_minus : (m n p : ℕ) → m + p ≡ n + 2 ^ 64 → n < p → p ≤ n + 2 ^ 63 → cast_signed w64 m ≡ pos n -ℤ pos p
cast_minus m n p sum less fits =
    let test : nat_lt m (2 ^ 63) ≡ false = grind (arith, nat_tests) in
    let same : 2 ^ 64 - suc m ≡ p - suc n = omega arith in
    rw (test, same) (sym (difference n p less))

-- the value by a sum below 2^63
pub signed_plus : (s t : Stretch) (low last count : ℕ) → AreGroups 10 s low last count t → last < 64 → (count ≡ 9 → last ≡ 0) → signed_at s ≡ Ok (cast_signed w64 (low + (128 ^ count * last) % 2 ^ 64), t)
signed_plus s t low last count is plus zero =
    let size : low + 128 ^ count * last < 2 ^ 63 = plus_fits low last count is.below plus is.within zero in
    let whole : (128 ^ count * last) % 2 ^ 64 ≡ 128 ^ count * last = omega arith in
    rw (whole, cast_plus (low + 128 ^ count * last) size)
    (signed_here s t low last count (pos (low + 128 ^ count * last)) is (omega arith)
    (in_range (take (count + 1) s.bytes) (pos (low + 128 ^ count * last)) (value_plus s t low last count is plus) (fits_range (low + 128 ^ count * last) size)))

-- the value by a tenth byte of ones
pub signed_top : (s t : Stretch) (low last count : ℕ) → AreGroups 10 s low last count t → count ≡ 9 → last ≡ 127 → signed_at s ≡ Ok (cast_signed w64 (low + (128 ^ count * last) % 2 ^ 64), t)
signed_top s t low last count is nine ones =
    let power : 128 ^ count ≡ 128 ^ 9 = ap (λ (k : ℕ). 128 ^ k) nine in
    let scaled : 128 ^ count * last ≡ 128 ^ 9 * last = ap (λ (k : ℕ). k * last) power in
    let next : 128 ^ (count + 1) ≡ 128 ^ 10 = ap (λ (k : ℕ). 128 ^ (k + 1)) nine in
    let below : low < 128 ^ 9 = rw power at is.below in
    let over : 128 ^ count * last ≡ 128 ^ 9 * 127 = omega arith in
    let rest : (128 ^ count * last) % 2 ^ 64 ≡ 2 ^ 63 = rw over refl in
    rw (rest, cast_minus (low + 2 ^ 63) (low + 128 ^ count * last) (128 ^ (count + 1)) (omega arith) (omega arith) (omega arith))
    (signed_here s t low last count (pos (low + 128 ^ count * last) -ℤ pos (128 ^ (count + 1))) is (omega arith)
    (in_range (take (count + 1) s.bytes) (pos (low + 128 ^ count * last) -ℤ pos (128 ^ (count + 1))) (value_minus s t low last count is (omega arith) (omega arith))
    (fits_below (low + 128 ^ count * last) (128 ^ (count + 1)) (omega arith) (omega arith))))

-- the value by a sum and the weight of its sign
pub signed_minus : (s t : Stretch) (low last count : ℕ) → AreGroups 10 s low last count t → count < 9 → 64 ≤ last → last < 128 → signed_at s ≡ Ok (cast_signed w64 ((low + (128 ^ count * last) % 2 ^ 64 + (2 ^ 64 - 128 ^ (count + 1))) % 2 ^ 64), t)
signed_minus s t low last count is less minus end =
    let group : Room low last count = room low last count is.below end (omega arith) in
    let whole : (128 ^ count * last) % 2 ^ 64 ≡ 128 ^ count * last = omega (arith, group.below, group.fits) in
    let rest : (low + 128 ^ count * last + (2 ^ 64 - 128 ^ (count + 1))) % 2 ^ 64 ≡ low + 128 ^ count * last + (2 ^ 64 - 128 ^ (count + 1)) = omega (arith, group.below, group.fits) in
    rw (whole, rest, cast_minus (low + 128 ^ count * last + (2 ^ 64 - 128 ^ (count + 1))) (low + 128 ^ count * last) (128 ^ (count + 1)) (omega (arith, group.below, group.fits)) (omega (arith, group.below)) (omega (arith, group.below, group.fits)))
    (signed_here s t low last count (pos (low + 128 ^ count * last) -ℤ pos (128 ^ (count + 1))) is end
    (in_range (take (count + 1) s.bytes) (pos (low + 128 ^ count * last) -ℤ pos (128 ^ (count + 1))) (value_minus s t low last count is minus end)
    (fits_below (low + 128 ^ count * last) (128 ^ (count + 1)) (omega (arith, group.below)) (omega (arith, group.below, group.fits)))))

-- the weight of the sign
pub weight_is : (count : ℕ) → count < 9 → (1 * 2 ^ (7 * (count + 1))) % 2 ^ 64 ≡ 128 ^ (count + 1)
weight_is count less =
    let top : 128 ^ (count + 1) ≤ 128 ^ 9 = pow-le-pow_right {n = 128} (omega arith) {i = count + 1} {j = 9} (omega arith) in
    rw (seven_bits (count + 1)) (omega arith)

-- the tenth byte isn't marked
pub end_of_tenth : (s t : Stretch) (low last count : ℕ) → AreGroups 10 s low last count t → (count ≡ 9 → (last ≡ 0) ⊎ (last ≡ 127)) → last < 128
end_of_tenth s t low last count is top = end_of_groups 10 s t low last count 128 is (omega arith) (λ h. elim (top (omega arith)) [ inl zero ↦ omega arith | inr ones ↦ omega arith ])

-- the value by a sum alone
pub signed_sum : (s t : Stretch) (low last count : ℕ) → AreGroups 10 s low last count t → (count ≡ 9 → (last ≡ 0) ⊎ (last ≡ 127)) → (count ≡ 9) ⊎ (last < 64) → signed_at s ≡ Ok (cast_signed w64 (low + (128 ^ count * last) % 2 ^ 64), t)
signed_sum s t low last count is top (inr plus) =
    signed_plus s t low last count is plus (λ nine. elim (top nine) [ inl zero ↦ zero | inr ones ↦ absurd (omega arith) ])
signed_sum s t low last count is top (inl nine) = elim (top nine) [
  | inl zero ↦ signed_plus s t low last count is (omega arith) (λ h. zero)
  | inr ones ↦ signed_top s t low last count is nine ones
]

-- what the code knows of groups that it doesn't refuse: their sum fits 64 bits
pub record SignedFits (low last count : ℕ) : Type 0 where
  pub top : count ≡ 9 → (last ≡ 0) ⊎ (last ≡ 127)
  pub end : last < 128
  pub sum : Sum low last count

sign_of_test : (test : Bool) (last : ℕ) → test ≡ (last == 0 || last == 127) → test ≡ true → (last ≡ 0) ⊎ (last ≡ 127)
sign_of_test test last is holds = elim (cases_lt last 1) [
  | inl zero ↦ inl (omega arith)
  | inr more ↦ grind (arith, nat_tests)
]

pub signed_unfit : (s t : Stretch) (low last count : ℕ) (test : Bool) → AreGroups 10 s low last count t → test ≡ (last == 0 || last == 127) → count ≡ 9 → test ≡ false → signed_at s ≡ Err BadSignedLeb128
signed_unfit s t low last count test is sign nine fails = signed_refused s t low last count is nine (λ zero. grind (arith, nat_tests)) (λ ones. grind (arith, nat_tests))

pub signed_fits : (s t : Stretch) (low last count : ℕ) (test : Bool) → AreGroups 10 s low last count t → test ≡ (last == 0 || last == 127) → ((count ≡ 9) × (test ≡ true)) ⊎ (count ≢ 9) → SignedFits low last count
signed_fits s t low last count test is sign passed =
    let top : count ≡ 9 → (last ≡ 0) ⊎ (last ≡ 127) = λ h. elim passed [ inl holds ↦ sign_of_test test last sign holds.1 | inr other ↦ absurd (other h) ] in
    let end : last < 128 = end_of_tenth s t low last count is top in
    record { top = top; end = end; sum = sum_fits low last count is.below end is.within top }
