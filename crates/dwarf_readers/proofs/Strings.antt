-- Numbers of variable length, byte by byte.
use Rattle.std.proofs.Common.{◌≡◌, ℕ, zero, suc, ◌+◌, ◌-◌, ◌*◌, ◌%◌, ◌^◌, ◌<◌, ◌≤◌, List, [], ◌∷◌, length, take, drop, slice_index, Bool, true, false, cond, Option, Some, None, Ok, Err, nat_lt, nat_le, refl, ap, sym, ◌∙◌, arith, add-one, add-zero, get_or, length-drop}
use Rattle.std.proofs.lemmas.Bool.Decides.{nat_tests}
use Rattle.std.proofs.lemmas.List.{get_or-drop, get_or-take, length-take-le}
use Rattle.std.proofs.lemmas.Nat.{pow-add}
use Rattle.std.proofs.Math.Nat.{pow-le-pow_right, pow-suc, mul-le-mul_left}
use Rattle.dwarf_constants.specs.declared.error.Error.{Error}
use Rattle.dwarf_readers.specs.Leb128.{has_sign, leb128_within, string_of, unsigned_value}
use Rattle.dwarf_readers.specs.Stretch.{Stretch, behind, byte_at, end_of, ends_at}
use Rattle.dwarf_readers.proofs.Places.{taken_test, taken_false, behind_behind}

-- one byte more of a number
pub value_more : (bs : List ℕ) (i : ℕ) → i < length bs → unsigned_value (take (i + 1) bs) ≡ unsigned_value (take i bs) + 128 ^ i * (slice_index bs i % 128)
value_more [] i h = absurd (omega arith)
value_more (b ∷ bs) zero h = omega arith
value_more (b ∷ bs) (suc i) h =
    let rest = value_more bs i (omega arith) in
    let more : suc i + 1 ≡ suc (i + 1) = omega arith in
    rw (more, rest, pow-suc 128 i) (omega arith)

-- seven bits a byte
pub seven_bits : (c : ℕ) → 2 ^ (7 * c) ≡ 128 ^ c
seven_bits zero = refl
seven_bits (suc c) =
    let more : 7 * suc c ≡ 7 * c + 7 = omega arith in
    rw (more, pow-add 2 (7 * c) 7, seven_bits c, pow-suc 128 c) refl

-- a group above c others, up to nine groups: it is shifted without a loss, and all are below the next power
pub record Room (v x c : ℕ) : Type 0 where
  pub shifted : (x * 2 ^ (7 * c)) % 2 ^ 64 ≡ 128 ^ c * x
  pub below : v + 128 ^ c * x < 128 ^ (c + 1)
  pub fits : 128 ^ (c + 1) ≤ 2 ^ 63

pub room : (v x c : ℕ) → v < 128 ^ c → x < 128 → c ≤ 8 → Room v x c
room v x c low group most =
    let fits : 128 ^ (c + 1) ≤ 128 ^ 9 = pow-le-pow_right {n = 128} (omega arith) {i = c + 1} {j = 9} (omega arith) in
    let next : 128 ^ (c + 1) ≡ 128 ^ c * 128 = rw add-one (pow-suc 128 c) in
    let step : 128 ^ c * (x + 1) ≤ 128 ^ c * 128 = mul-le-mul_left {m = x + 1} {n = 128} (128 ^ c) (omega arith) in
    let bits = seven_bits c in
    record {
      shifted = rw bits (omega arith);
      below = omega arith;
      fits = fits;
    }

-- a byte that was read behind i others
pub record ByteRead (s : Stretch) (i b : ℕ) (t : Stretch) : Type 0 where
  pub inside : i < length s.bytes
  pub byte : b ≡ slice_index s.bytes i
  pub left : t ≡ behind (i + 1) s

pub byte_read : (s : Stretch) (i b : ℕ) (t : Stretch) → byte_at (behind i s) ≡ Ok (b, t) → ByteRead s i b t
byte_read s i b t h =
    let test : nat_lt (length (drop i s.bytes)) 1 ≡ false = taken_false _ (ends_at (s.offset + i)) _ _ h in
    let size : length (drop i s.bytes) ≡ length s.bytes - i = length-drop i s.bytes in
    let is : (slice_index (drop i s.bytes) 0, behind 1 (behind i s)) ≡ (b, t) = taken_test (nat_lt (length (drop i s.bytes)) 1) (ends_at (s.offset + i)) _ _ h in
    let first : get_or (drop i s.bytes) 0 0 ≡ get_or s.bytes i 0 = get_or-drop i s.bytes 0 0 ∙ ap (λ (k : ℕ). get_or s.bytes k 0) (add-zero i) in
    record {
      inside = grind (arith, nat_tests);
      byte = sym (ap (λ (p : ℕ × Stretch). p.0) is) ∙ first;
      left = sym (ap (λ (p : ℕ × Stretch). p.1) is) ∙ behind_behind 1 i s;
    }

pub first_read : (s : Stretch) (b : ℕ) (t : Stretch) → byte_at s ≡ Ok (b, t) → ByteRead s 0 b t
first_read s b t h =
    let test : nat_lt (length s.bytes) 1 ≡ false = taken_false _ (ends_at s.offset) _ _ h in
    let is : (slice_index s.bytes 0, behind 1 s) ≡ (b, t) = taken_test (nat_lt (length s.bytes) 1) (ends_at s.offset) _ _ h in
    record {
      inside = grind (arith, nat_tests);
      byte = sym (ap (λ (p : ℕ × Stretch). p.0) is);
      left = sym (ap (λ (p : ℕ × Stretch). p.1) is);
    }

-- .. and isn't there
pub byte_missing : (s : Stretch) (i : ℕ) (e : Error) → byte_at (behind i s) ≡ Err e → (length s.bytes ≤ i) × (e ≡ ends_at (s.offset + i))
byte_missing s i e h =
    let size : length (drop i s.bytes) ≡ length s.bytes - i = length-drop i s.bytes in
    let is = refused_by (nat_lt (length (drop i s.bytes)) 1) (ends_at (s.offset + i)) e (slice_index (drop i s.bytes) 0, behind 1 (behind i s)) h in
    let test = is.0 in
    (grind (arith, nat_tests), is.1)
  where
    refused_by : {A : Type 0} (test : Bool) (x e : Error) (y : A) → cond test (Err x) (Ok y) ≡ Err e → (test ≡ true) × (e ≡ x)
    refused_by true x e y h = (refl, cc)
    refused_by false x e y h = absurd (cc)

-- the string at the front ends with the byte at i
pub string_found : (bs : List ℕ) (i n : ℕ) → i < n → i < length bs → ((k : ℕ) → k < i → 128 ≤ slice_index bs k) → slice_index bs i < 128 → string_of (take n bs) ≡ Some (take (i + 1) bs)
string_found [] i n within inside marked last = absurd (omega arith)
string_found (b ∷ bs) i zero within inside marked last = absurd (omega arith)
string_found (b ∷ bs) zero (suc n) within inside marked last =
    let test : nat_lt b 128 ≡ true = grind (arith, nat_tests) in
    rw test refl
string_found (b ∷ bs) (suc i) (suc n) within inside marked last =
    let first : 128 ≤ b = marked 0 (omega arith) in
    let test : nat_lt b 128 ≡ false = grind (arith, nat_tests) in
    let rest = string_found bs i n (omega arith) (omega arith) (λ k h. marked (suc k) (omega arith)) last in
    let more : suc i + 1 ≡ suc (i + 1) = omega arith in
    rw (test, rest, more) refl

-- no byte ends a string
pub string_missing : (bs : List ℕ) (n : ℕ) → ((k : ℕ) → k < n → k < length bs → 128 ≤ slice_index bs k) → string_of (take n bs) ≡ None
string_missing [] zero marked = refl
string_missing [] (suc n) marked = refl
string_missing (b ∷ bs) zero marked = refl
string_missing (b ∷ bs) (suc n) marked =
    let first : 128 ≤ b = marked 0 (omega arith) (omega arith) in
    let test : nat_lt b 128 ≡ false = grind (arith, nat_tests) in
    let rest = string_missing bs n (λ k h inside. marked (suc k) (omega arith) (omega arith)) in
    rw (test, rest) refl

-- a number whose string ends with the byte at i, and fits
pub number_done : {A : Type 0} (n : ℕ) (bad : Error) (fitting : List ℕ → Option A) (s : Stretch) (i : ℕ) (v : A) → i < n → i < length s.bytes → ((k : ℕ) → k < i → 128 ≤ slice_index s.bytes k) → slice_index s.bytes i < 128 → fitting (take (i + 1) s.bytes) ≡ Some v → leb128_within n bad fitting s (string_of (take n s.bytes)) ≡ Ok (v, behind (i + 1) s)
number_done n bad fitting s i v within inside marked last fits =
    let size : length (take (i + 1) s.bytes) ≡ i + 1 = length-take-le (i + 1) s.bytes (omega arith) in
    rw (string_found s.bytes i n within inside marked last, fits, size) refl

-- .. and doesn't fit
pub number_unfit : {A : Type 0} (n : ℕ) (bad : Error) (fitting : List ℕ → Option A) (s : Stretch) (i : ℕ) → i < n → i < length s.bytes → ((k : ℕ) → k < i → 128 ≤ slice_index s.bytes k) → slice_index s.bytes i < 128 → fitting (take (i + 1) s.bytes) ≡ None → leb128_within n bad fitting s (string_of (take n s.bytes)) ≡ Err bad
number_unfit n bad fitting s i within inside marked last fits = rw (string_found s.bytes i n within inside marked last, fits) refl

-- a number that doesn't end in time
pub number_long : {A : Type 0} (n : ℕ) (bad : Error) (fitting : List ℕ → Option A) (s : Stretch) → n ≤ length s.bytes → ((k : ℕ) → k < n → 128 ≤ slice_index s.bytes k) → leb128_within n bad fitting s (string_of (take n s.bytes)) ≡ Err bad
number_long n bad fitting s enough marked =
    let test : nat_lt (length s.bytes) n ≡ false = grind (arith, nat_tests) in
    rw (string_missing s.bytes n (λ k h inside. marked k h), test) refl

-- a number whose bytes are missing
pub number_short : {A : Type 0} (n : ℕ) (bad : Error) (fitting : List ℕ → Option A) (s : Stretch) → length s.bytes < n → ((k : ℕ) → k < length s.bytes → 128 ≤ slice_index s.bytes k) → leb128_within n bad fitting s (string_of (take n s.bytes)) ≡ Err (ends_at (end_of s))
number_short n bad fitting s few marked =
    let test : nat_lt (length s.bytes) n ≡ true = grind (arith, nat_tests) in
    rw (string_missing s.bytes n (λ k h inside. marked k inside), test) refl

-- bit 6 of the last byte
pub sign_of : (bs : List ℕ) (i : ℕ) → i < length bs → has_sign (take (i + 1) bs) ≡ nat_le 64 (slice_index bs i % 128)
sign_of bs i inside =
    let size : length (take (i + 1) bs) ≡ i + 1 = length-take-le (i + 1) bs (omega arith) in
    let last : i + 1 - 1 ≡ i = omega arith in
    let byte : get_or (take (i + 1) bs) i 0 ≡ get_or bs i 0 = get_or-take (i + 1) bs i 0 (omega arith) in
    rw (size, last, byte) refl
