-- Words of 64 bits that hold values of fewer: a value has 8n bits, and s more make a word.
use Rattle.std.proofs.Common.{◌≡◌, ℕ, zero, suc, ◌+◌, ◌-◌, ◌*◌, ◌/◌, ◌%◌, ◌^◌, ◌<◌, ◌≤◌, ℤ, pos, negsuc, ◌-ℤ◌, neg_ℤ, unsigned_abs, int_div, FitsSigned, to_z, of_z, w64, min, refl, sym, ap, lit<, ◌∙◌, arith}
use Rattle.std.specs.Prelude.{IsTrue, nat_lt, nat_le, if◌then◌else◌}
use Rattle.std.specs.Int.Signed.{shr_z, mag_shr}
use Rattle.std.proofs.Math.Nat.{div-le_self, mul-div_cancel, mul-lt-mul_of_pos_right, mul-le-mul_right, one-le-pow, pow-le-pow_right, mod-le}
use Rattle.std.proofs.lemmas.Int.{ints, of_z-to_z, to_z-of_z, to_z_pos}
use Rattle.std.proofs.Math.Facts.{to_z-neg}
use Rattle.std.proofs.lemmas.Nat.{div-mul-add, mod-mul-add, pow-add, div_below, mod_below, div-add-mod'}
use Rattle.list_laws.proofs.Laws.{by_case}
use Rattle.dwarf_readers.specs.InitialLength.{is_size}
use Rattle.dwarf_expressions.specs.Values.{modulus, signed, value_of}

-- so many values, and so many words for each
pub whole : (n s : ℕ) → s + 8 * n ≡ 64 → modulus n * 2 ^ s ≡ 2 ^ 64
whole n s e = let f : 8 * n + s ≡ 64 = omega arith in sym (pow-add 2 (8 * n) s) ∙ ap (λ (k : ℕ). 2 ^ k) f

pub some : (k : ℕ) → 0 < 2 ^ k
some k = one-le-pow k 2 (lit< tt)

-- ---- signed numbers

-- a word that has a value below half of them in its high bits, moved down
moved_low : (m k v : ℕ) → m * k ≡ 2 ^ 64 → 0 < k → 2 * v < m → shr_z (to_z w64 (v * k)) k ≡ pos v
moved_low m k v e pos_k half =
    let product : 2 * v * k < m * k = mul-lt-mul_of_pos_right half pos_k in
    let low : v * k < 2 ^ 63 = omega arith in
    rw (to_z_pos w64 (v * k) low) (ap pos (mul-div_cancel v pos_k))

-- .. another value
moved_high : (k v d r : ℕ) → (suc v + d) * k ≡ 2 ^ 64 → k ≡ suc r → d < v → shr_z (to_z w64 (v * k)) k ≡ negsuc d
moved_high k v d r e rest half =
    let product : suc d * k ≤ v * k = mul-le-mul_right k half in
    let low : d * k + r < 2 ^ 63 = omega arith in
    let bits : v * k ≡ 2 ^ 64 - suc (d * k + r) = omega arith in
    rw bits (rw (to_z-neg w64 (d * k + r) low) (ap negsuc (div-mul-add d k r (omega arith))))

moved : (m k v : ℕ) → m * k ≡ 2 ^ 64 → 0 < k → v < m → shr_z (to_z w64 (v * k)) k ≡ (if nat_lt (2 * v) m then pos v else pos v -ℤ pos m)
moved m k v e pos_k below =
    by_case (nat_lt (2 * v) m)
    (λ is. let half : 2 * v < m = grind arith in rw is (moved_low m k v e pos_k half))
    (λ is.
    let half : m ≤ 2 * v = grind arith in
    let split : suc v + (m - suc v) ≡ m = omega arith in
    let last : k ≡ suc (k - 1) = omega arith in
    let difference : pos v -ℤ pos m ≡ negsuc (m - suc v) = omega (arith, ints) in
    rw (is, difference) (moved_high k v (m - suc v) (k - 1) (ap (λ (x : ℕ). x * k) split ∙ e) last (omega arith)))

pub signed_moved : (n s v : ℕ) → s + 8 * n ≡ 64 → v < modulus n → shr_z (to_z w64 (v * 2 ^ s % 2 ^ 64)) (2 ^ s) ≡ signed n v
signed_moved n s v e below =
    let product : v * 2 ^ s < modulus n * 2 ^ s = mul-lt-mul_of_pos_right below (some s) in
    let all = whole n s e in
    let fits : v * 2 ^ s % 2 ^ 64 ≡ v * 2 ^ s = omega arith in
    rw fits (moved (modulus n) (2 ^ s) v all (some s) below)

le_lt : {a b c : ℕ} → a ≤ b → b < c → a < c
le_lt h g = omega arith

-- a shift to the right of the signed word
pub signed_word : (x : ℤ) (k : ℕ) → FitsSigned w64 x → to_z w64 (of_z w64 (shr_z (to_z w64 (of_z w64 x)) k)) ≡ shr_z x k
signed_word x k fits =
    let same = to_z-of_z w64 x fits in
    let small : FitsSigned w64 (shr_z x k) = record { sfits = le_lt (mag_shr x k) fits.sfits } in
    rw same (to_z-of_z w64 (shr_z x k) small)

-- ---- words of whole numbers

-- of the words below 2^64, that of -(a + 1) has the value of -(a + 1)
complement : (m k a : ℕ) → m * k ≡ 2 ^ 64 → 0 < m → a < 2 ^ 64 → (2 ^ 64 - suc a) % m ≡ m - 1 - a % m
complement m k a e pos_m below =
    let parts = div-add-mod' a m in
    let r : a % m < m = mod_below a m pos_m in
    let q : a / m < k = div_below a m k pos_m (let f : a < k * m = omega arith in f) in
    let split : suc (a / m) + (k - suc (a / m)) ≡ k = omega arith in
    let turned : k * m ≡ 2 ^ 64 = omega arith in
    rw (parts_of m (a / m) (k - suc (a / m)) (a % m) a (ap (λ (x : ℕ). x * m) split ∙ turned) parts r) (mod-mul-add (k - suc (a / m)) m (m - 1 - a % m) (omega arith))
  where
    parts_of : (m q c r a : ℕ) → (suc q + c) * m ≡ 2 ^ 64 → q * m + r ≡ a → r < m → 2 ^ 64 - suc a ≡ c * m + (m - 1 - r)
    parts_of m q c r a e f h = omega arith

pub value_of_word : (n s : ℕ) (z : ℤ) → s + 8 * n ≡ 64 → unsigned_abs z < 2 ^ 64 → of_z w64 z % modulus n ≡ value_of n z
value_of_word n s (pos a) e below = refl
value_of_word n s (negsuc a) e below = complement (modulus n) (2 ^ s) a (whole n s e) (some (8 * n)) (omega arith)

-- ---- quotients and shifts

quotient_small : (x y : ℤ) → unsigned_abs (int_div x y) ≤ unsigned_abs x
quotient_small (pos a) (pos b) = div-le_self a b
quotient_small (pos a) (negsuc b) = negated (a / suc b) a (div-le_self a (suc b))
  where
    negated : (c a : ℕ) → c ≤ a → unsigned_abs (neg_ℤ (pos c)) ≤ a
    negated zero a h = h
    negated (suc c) a h = h
quotient_small (negsuc a) (pos b) = negated (suc a / b) (suc a) (div-le_self (suc a) b)
  where
    negated : (c a : ℕ) → c ≤ a → unsigned_abs (neg_ℤ (pos c)) ≤ a
    negated zero a h = h
    negated (suc c) a h = h
quotient_small (negsuc a) (negsuc b) = div-le_self (suc a) (suc b)

word_fits : (z : ℤ) → unsigned_abs z < 2 ^ 64 → of_z w64 z < 2 ^ 64
word_fits (pos a) h = h
word_fits (negsuc a) h = omega arith

magnitude : (z : ℤ) → FitsSigned w64 z → unsigned_abs z ≤ 2 ^ 63
magnitude (pos a) fits = let h = fits.sfits in omega arith
magnitude (negsuc a) fits = fits.sfits

-- the word of a number, cast to and fro
pub cast_word : (z : ℤ) → unsigned_abs z < 2 ^ 64 → of_z w64 (to_z w64 (of_z w64 (to_z w64 (of_z w64 z)))) ≡ of_z w64 z
cast_word z small = let same = of_z-to_z w64 (of_z w64 z) (word_fits z small) in ap (λ (b : ℕ). of_z w64 (to_z w64 b)) same ∙ same

pub quotient_fits : (x y : ℤ) → FitsSigned w64 x → unsigned_abs (int_div x y) < 2 ^ 64
quotient_fits x y fits = omega (arith, quotient_small x y, magnitude x fits)

pub quotient_word : (x y : ℤ) → FitsSigned w64 x → FitsSigned w64 y
    → of_z w64 (to_z w64 (of_z w64 (to_z w64 (of_z w64 (int_div (to_z w64 (of_z w64 x)) (to_z w64 (of_z w64 y))))))) ≡ of_z w64 (int_div x y)
quotient_word x y first second = rw (to_z-of_z w64 x first, to_z-of_z w64 y second) (cast_word (int_div x y) (quotient_fits x y first))

-- ---- sizes of addresses

-- a value has at most as many bits as a word
pub unused : (n : ℕ) → IsTrue (is_size n) → (64 - 8 * n) + 8 * n ≡ 64
unused n is = grind arith

-- ---- shifts by more than a word

wide : (r : ℕ) → 64 ≤ r → 2 ^ 64 ≤ 2 ^ r
wide r h = pow-le-pow_right (lit< tt) h

shifted_low : (l r : ℕ) → l < 2 ^ 64 → 64 ≤ r → l / 2 ^ r < 1
shifted_low l r below h = div_below l (2 ^ r) 1 (some r) (omega (arith, wide r h))

-- to the left
pub shifted_out : (n l r : ℕ) → (64 - 8 * n) + 8 * n ≡ 64 → 64 ≤ r → 0 ≡ l * 2 ^ r % modulus n
shifted_out n l r e h =
    let split : (r - 8 * n) + 8 * n ≡ r = omega arith in
    let parts : l * 2 ^ r ≡ l * 2 ^ (r - 8 * n) * modulus n + 0 = ap (λ (k : ℕ). l * 2 ^ k) (sym split) ∙ ap (λ (k : ℕ). l * k) (pow-add 2 (r - 8 * n) (8 * n)) ∙ flat l (2 ^ (r - 8 * n)) (modulus n) in
    sym (ap (λ (k : ℕ). k % modulus n) parts ∙ mod-mul-add (l * 2 ^ (r - 8 * n)) (modulus n) 0 (some (8 * n)))
  where
    flat : (a b c : ℕ) → a * (b * c) ≡ a * b * c + 0
    flat a b c = omega arith

-- to the right
pub shifted_away : (n l r : ℕ) → l < 2 ^ 64 → 64 ≤ r → 0 ≡ l / 2 ^ r % modulus n
shifted_away n l r below h = omega (arith, shifted_low l r below h, mod-le (l / 2 ^ r) (modulus n))

-- with its sign, a number of 64 bits is shifted by 63 places as by more
as_by_63 : (a r : ℕ) → a < 2 ^ 63 → a / 2 ^ min r 63 ≡ a / 2 ^ r
as_by_63 a r below =
    by_case (nat_le r 63)
    (λ is. let same : min r 63 ≡ r = grind arith in ap (λ (k : ℕ). a / 2 ^ k) same)
    (λ is.
    let by : min r 63 ≡ 63 = grind arith in
    let far : 64 ≤ r = grind arith in
    let first : a / 2 ^ min r 63 < 1 = rw by (div_below a (2 ^ 63) 1 (lit< tt) (omega arith)) in
    omega (arith, shifted_low a r (omega arith) far))

pub sign_shifted : (x : ℤ) (r : ℕ) → FitsSigned w64 x → shr_z x (2 ^ min r 63) ≡ shr_z x (2 ^ r)
sign_shifted (pos a) r fits = ap pos (as_by_63 a r fits.sfits)
sign_shifted (negsuc a) r fits = ap negsuc (as_by_63 a r fits.sfits)

-- .. as a word
pub shift_fits : (x : ℤ) (k : ℕ) → FitsSigned w64 x → unsigned_abs (shr_z x k) < 2 ^ 64
shift_fits x k fits = omega (arith, magnitude (shr_z x k) (record { sfits = le_lt (mag_shr x k) fits.sfits }))
