-- The shortest spellings of signed numbers of variable length, read again.
use Rattle.std.proofs.Common.{◌≡◌, ℕ, zero, suc, ◌+◌, ◌-◌, ◌*◌, ◌/◌, ◌%◌, ◌^◌, ◌<◌, ◌≤◌, ℤ, pos, negsuc, neg_ℤ, List, [], ◌∷◌, ◌++◌, length, take, slice_index, Bool, true, false, ◌&&◌, Some, Ok, int_le, int_lt, nat_lt, nat_le, refl, ◌∙◌, arith, inl, inr, add-one}
use Rattle.std.proofs.lemmas.Bool.{cases_lt}
use Rattle.std.proofs.lemmas.Bool.Decides.{nat_tests}
use Rattle.std.proofs.lemmas.Int.{ints}
use Rattle.std.proofs.lemmas.List.{drop_at, length-take-le, take_all}
use Rattle.std.proofs.Math.Nat.{pow-suc, mul-le-mul_left}
use Rattle.std.specs.Prelude.{◌≤ℤ◌, ◌<ℤ◌}
use mir.Val.{SFits}
use Rattle.std.specs.Int.{w64}
use Rattle.dwarf_readers.specs.Leb128.{has_sign, signed_at, signed_value, string_of, unsigned_value}
use Rattle.dwarf_readers.specs.Signed.{above_group, fits_group, low_group, signed_groups_of, signed_string}
use Rattle.dwarf_readers.proofs.SignedValues.{difference}
use Rattle.dwarf_readers.proofs.Spellings.{string_some, value_below}
use Rattle.dwarf_readers.proofs.Strings.{sign_of, value_more}

-- the bits of a number but its sign, as a number: those of a negative one turned over
abbrev pub bits_of : ℤ → ℕ
bits_of (pos n) = n
bits_of (negsuc n) = n

bits_above : (v : ℤ) → bits_of (above_group v) ≡ bits_of v / 128
bits_above (pos n) = refl
bits_above (negsuc n) = refl

low_group_less : (v : ℤ) → low_group v < 128
low_group_less (pos n) = omega arith
low_group_less (negsuc n) = omega arith

fits_less : (v : ℤ) → bits_of v < 64 → fits_group v ≡ true
fits_less (pos n) less = grind (arith, nat_tests)
fits_less (negsuc n) less = grind (arith, nat_tests)

fits_not : (v : ℤ) → 64 ≤ bits_of v → fits_group v ≡ false
fits_not (pos n) large = grind (arith, nat_tests)
fits_not (negsuc n) large = grind (arith, nat_tests)

-- there is room for one more group
pub signed_room : (v : ℤ) (count : ℕ) → count ≤ 9 → bits_of v * 128 ^ count < 2 ^ 63 → 64 ≤ bits_of v → count < 9
signed_room v count most fits large = elim (cases_lt count 9) [
  | inl less ↦ less
  | inr top ↦
      let nine : count ≡ 9 = omega arith in
      let fits_nine : bits_of v * 128 ^ 9 < 2 ^ 63 = rw nine at fits in
      omega arith
]

-- the rest behind one more group
pub signed_rest_fits : (v : ℤ) (count : ℕ) → bits_of v * 128 ^ count < 2 ^ 63 → bits_of (above_group v) * 128 ^ (count + 1) < 2 ^ 63
signed_rest_fits v count fits =
    let next : 128 ^ (count + 1) ≡ 128 ^ count * 128 = rw add-one (pow-suc 128 count) in
    let less : bits_of v / 128 * 128 ≤ bits_of v = omega arith in
    let scaled : 128 ^ count * (bits_of v / 128 * 128) ≤ 128 ^ count * bits_of v = mul-le-mul_left (128 ^ count) less in
    rw (bits_above v, next) (omega arith)

-- the tests of the loop
pub far_below : (v : ℤ) → int_lt v (negsuc 63) ≡ true → 64 ≤ bits_of v
far_below (pos n) test = absurd (cc)
far_below (negsuc n) test = grind (arith, nat_tests)

pub far_above : (v : ℤ) → int_le (pos 64) v ≡ true → 64 ≤ bits_of v
far_above (pos n) test = grind (arith, nat_tests)
far_above (negsuc n) test = absurd (cc)

pub near : (v : ℤ) → int_lt v (negsuc 63) ≡ false → int_le (pos 64) v ≡ false → bits_of v < 64
near (pos n) below above = grind (arith, nat_tests)
near (negsuc n) below above = grind (arith, nat_tests)

-- the bits of a number of 64 bits
pub bits_fit : (v : ℤ) → SFits w64 v → bits_of v < 2 ^ 63
bits_fit (pos n) fits = fits.sfits
bits_fit (negsuc n) fits = fits.sfits

-- the last group
pub last_signed_group : (n : ℕ) (v : ℤ) → bits_of v < 64 → signed_groups_of n v ≡ low_group v ∷ []
last_signed_group zero v less = refl
last_signed_group (suc n) v less = rw (fits_less v less) refl

-- one more group
pub more_signed_groups : (n : ℕ) (v : ℤ) → 64 ≤ bits_of v → signed_groups_of (suc n) v ≡ (128 + low_group v) ∷ signed_groups_of n (above_group v)
more_signed_groups n v large = rw (fits_not v large) refl

-- the groups of the rest fit where those of the number do
above_fits : (n : ℕ) (v : ℤ) → bits_of v < 64 * 128 ^ suc n → bits_of (above_group v) < 64 * 128 ^ n
above_fits n v fits =
    let power : 128 ^ suc n ≡ 128 * 128 ^ n = rw (pow-suc 128 n) (omega arith) in
    rw (bits_above v) (omega arith)

-- the groups are one string, whatever follows
signed_groups_again : (n : ℕ) (v : ℤ) (rest : List ℕ) → bits_of v < 64 * 128 ^ n → string_of (take (n + 1) (signed_groups_of n v ++ rest)) ≡ Some (signed_groups_of n v)
signed_groups_again zero v rest fits =
    let group = low_group_less v in
    let test : nat_lt (low_group v) 128 ≡ true = grind (arith, nat_tests) in
    rw test refl
signed_groups_again (suc n) v rest fits = elim (cases_lt (bits_of v) 64) [
  | inl less ↦
      let group = low_group_less v in
      let test : nat_lt (low_group v) 128 ≡ true = grind (arith, nat_tests) in
      let more : suc n + 1 ≡ suc (n + 1) = omega arith in
      rw (last_signed_group (suc n) v less, more, test) refl
  | inr large ↦
      let more : suc n + 1 ≡ suc (n + 1) = omega arith in
      let marked : nat_lt (128 + low_group v) 128 ≡ false = grind (arith, nat_tests) in
      rw (more_signed_groups n v large, more, marked, signed_groups_again n (above_group v) rest (above_fits n v fits)) refl
]

some_groups : (n : ℕ) (v : ℤ) → 1 ≤ length (signed_groups_of n v)
some_groups zero v = omega arith
some_groups (suc n) v = elim (cases_lt (bits_of v) 64) [
  | inl less ↦ rw (last_signed_group (suc n) v less) (omega arith)
  | inr large ↦ rw (more_signed_groups n v large) (omega arith)
]

-- the sign stands in the last byte
sign_behind : (b : ℕ) (bytes : List ℕ) → 1 ≤ length bytes → has_sign (b ∷ bytes) ≡ has_sign bytes
sign_behind b [] some = absurd (omega arith)
sign_behind b (c ∷ bytes) some =
    let last : suc (suc (length bytes)) - 1 ≡ suc (length bytes) = omega arith in
    let before : suc (length bytes) - 1 ≡ length bytes = omega arith in
    rw (last, before) refl

-- the value of the groups of a number that isn't negative
plus_sign : (n v : ℕ) → v < 64 * 128 ^ n → has_sign (signed_groups_of n (pos v)) ≡ false
plus_sign zero v fits = grind (arith, nat_tests)
plus_sign (suc n) v fits = elim (cases_lt v 64) [
  | inl less ↦
      let test : nat_le 64 (v % 128 % 128) ≡ false = grind (arith, nat_tests) in
      rw (last_signed_group (suc n) (pos v) less, test) refl
  | inr large ↦ rw (more_signed_groups n (pos v) large, sign_behind (128 + v % 128) (signed_groups_of n (pos (v / 128))) (some_groups n (pos (v / 128))), plus_sign n (v / 128) (above_fits n (pos v) fits)) refl
]

plus_value : (n v : ℕ) → v < 64 * 128 ^ n → unsigned_value (signed_groups_of n (pos v)) ≡ v
plus_value zero v fits = omega arith
plus_value (suc n) v fits = elim (cases_lt v 64) [
  | inl less ↦ rw (last_signed_group (suc n) (pos v) less) (omega arith)
  | inr large ↦ rw (more_signed_groups n (pos v) large, plus_value n (v / 128) (above_fits n (pos v) fits)) (omega arith)
]

-- .. and of one that is
minus_sign : (n v : ℕ) → v < 64 * 128 ^ n → has_sign (signed_groups_of n (negsuc v)) ≡ true
minus_sign zero v fits = grind (arith, nat_tests)
minus_sign (suc n) v fits = elim (cases_lt v 64) [
  | inl less ↦
      let test : nat_le 64 ((128 - 1 - v % 128) % 128) ≡ true = grind (arith, nat_tests) in
      rw (last_signed_group (suc n) (negsuc v) less, test) refl
  | inr large ↦ rw (more_signed_groups n (negsuc v) large, sign_behind (128 + low_group (negsuc v)) (signed_groups_of n (negsuc (v / 128))) (some_groups n (negsuc (v / 128))), minus_sign n (v / 128) (above_fits n (negsuc v) fits)) refl
]

minus_value : (n v : ℕ) → v < 64 * 128 ^ n → unsigned_value (signed_groups_of n (negsuc v)) + suc v ≡ 128 ^ length (signed_groups_of n (negsuc v))
minus_value zero v fits = omega arith
minus_value (suc n) v fits = elim (cases_lt v 64) [
  | inl less ↦ rw (last_signed_group (suc n) (negsuc v) less) (omega arith)
  | inr large ↦
      let rest = minus_value n (v / 128) (above_fits n (negsuc v) fits) in
      let power : 128 ^ suc (length (signed_groups_of n (negsuc (v / 128)))) ≡ 128 * 128 ^ length (signed_groups_of n (negsuc (v / 128))) = rw (pow-suc 128 (length (signed_groups_of n (negsuc (v / 128))))) (omega arith) in
      rw (more_signed_groups n (negsuc v) large, power) (omega arith)
]

-- the value of the groups
pub signed_groups_value : (n : ℕ) (v : ℤ) → bits_of v < 64 * 128 ^ n → signed_value (signed_groups_of n v) ≡ v
signed_groups_value n (pos v) fits = rw (plus_sign n v fits, plus_value n v fits) refl
signed_groups_value n (negsuc v) fits =
    let value = minus_value n v fits in
    rw (minus_sign n v fits) (omega (arith, ints))

-- a number of 64 bits by its bits
bits_in_range : (v : ℤ) → neg_ℤ (pos (2 ^ 63)) ≤ℤ v → v <ℤ pos (2 ^ 63) → bits_of v < 2 ^ 63
bits_in_range (pos n) least most = omega (arith, ints)
bits_in_range (negsuc n) least most = omega (arith, ints)

range_test : (v : ℤ) → bits_of v < 2 ^ 63 → (int_le (neg_ℤ (pos (2 ^ 63))) v && int_lt v (pos (2 ^ 63))) ≡ true
range_test (pos n) fits = grind (arith, ints, nat_tests)
range_test (negsuc n) fits = grind (arith, ints, nat_tests)

-- what is spelled so is read again, and leaves exactly what follows
pub signed_again_lemma : (v : ℤ) (rest : List ℕ) (offset : ℕ) (big : Bool) → neg_ℤ (pos (2 ^ 63)) ≤ℤ v → v <ℤ pos (2 ^ 63) → signed_at (record { bytes = signed_string v ++ rest; offset = offset; big = big }) ≡ Ok (v, record { bytes = rest; offset = offset + length (signed_string v); big = big })
unfolding signed_string
signed_again_lemma v rest offset big least most =
    let fits : bits_of v < 2 ^ 63 = bits_in_range v least most in
    rw (signed_groups_again 9 v rest (omega arith), signed_groups_value 9 v (omega arith), range_test v fits, drop_at (signed_groups_of 9 v) rest (length (signed_groups_of 9 v)) refl) refl

-- the spelling of a number before its first group was cut off
pub signed_groups_start : (v : ℤ) → signed_groups_of 9 v ≡ signed_string v
unfolding signed_string
signed_groups_start v = refl

-- the bits of the value of n + 1 bytes
bits_below : (bytes : List ℕ) (n : ℕ) → length bytes ≡ n + 1 → bits_of (signed_value bytes) < 64 * 128 ^ n
bits_below bytes n size =
    let whole : take (n + 1) bytes ≡ bytes = take_all (n + 1) bytes (omega arith) in
    let inside : n < length bytes = omega arith in
    let group = slice_index bytes n % 128 in
    let value : unsigned_value bytes ≡ unsigned_value (take n bytes) + 128 ^ n * group = rw whole at (value_more bytes n inside) in
    let sign : has_sign bytes ≡ nat_le 64 group = rw whole at (sign_of bytes n inside) in
    let short : length (take n bytes) ≡ n = length-take-le n bytes (omega arith) in
    let low : unsigned_value (take n bytes) < 128 ^ n = rw short at (value_below (take n bytes)) in
    let all : unsigned_value bytes < 128 ^ (n + 1) = rw size at (value_below bytes) in
    let next : 128 ^ (n + 1) ≡ 128 ^ n * 128 = rw add-one (pow-suc 128 n) in
    elim (cases_lt group 64) [
      | inl less ↦
          let test : nat_le 64 group ≡ false = grind (arith, nat_tests) in
          let step : 128 ^ n * (group + 1) ≤ 128 ^ n * 64 = mul-le-mul_left (128 ^ n) (omega arith) in
          rw (sign, test) (omega arith)
      | inr large ↦
          let test : nat_le 64 group ≡ true = grind (arith, nat_tests) in
          let step : 128 ^ n * 64 ≤ 128 ^ n * group = mul-le-mul_left (128 ^ n) large in
          rw (sign, test, size, difference (unsigned_value bytes) (128 ^ (n + 1)) all) (omega arith)
    ]

-- a number below a power has no more groups
signed_groups_at_most : (n : ℕ) (v : ℤ) (m : ℕ) → bits_of v < 64 * 128 ^ m → length (signed_groups_of n v) ≤ m + 1
signed_groups_at_most zero v m fits = omega arith
signed_groups_at_most (suc n) v zero fits = rw (last_signed_group (suc n) v (omega arith)) (omega arith)
signed_groups_at_most (suc n) v (suc m) fits = elim (cases_lt (bits_of v) 64) [
  | inl less ↦ rw (last_signed_group (suc n) v less) (omega arith)
  | inr large ↦
      let rest = signed_groups_at_most n (above_group v) m (above_fits m v fits) in
      rw (more_signed_groups n v large) (omega arith)
]

-- no string of this value is shorter
pub signed_shortest : (v : ℤ) → neg_ℤ (pos (2 ^ 63)) ≤ℤ v → v <ℤ pos (2 ^ 63) → (other : List ℕ) → string_of other ≡ Some other → signed_value other ≡ signed_value (signed_string v) → length (signed_string v) ≤ length other
unfolding signed_string
signed_shortest v least most other string same =
    let fits : bits_of v < 2 ^ 63 = bits_in_range v least most in
    let value : signed_value other ≡ v = same ∙ signed_groups_value 9 v (omega arith) in
    let some = string_some other string in
    let below : bits_of v < 64 * 128 ^ (length other - 1) = rw value at (bits_below other (length other - 1) (omega arith)) in
    let groups = signed_groups_at_most 9 v (length other - 1) below in
    omega arith
