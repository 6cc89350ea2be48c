-- Words of 64 bits as values.
use Rattle.std.proofs.Common.{◌≡◌, ℕ, suc, ◌+◌, ◌-◌, ◌*◌, ◌/◌, ◌%◌, ◌^◌, ◌<◌, ◌≤◌, ℤ, pos, negsuc, unsigned_abs, FitsSigned, to_z, of_z, w64, min, refl, sym, ap, lit<, ◌∙◌, arith}
use Rattle.std.specs.Prelude.{nat_le}
use Rattle.std.specs.Int.Signed.{shr_z, mag_shr}
use Rattle.std.proofs.Math.Nat.{one-le-pow, pow-le-pow_right, mod-le, mod-eq_of_lt}
use Rattle.std.proofs.lemmas.Int.{to_z-of_z}
use Rattle.std.proofs.lemmas.Nat.{mod-mul-add, pow-add, div_below}
use Rattle.list_laws.proofs.Laws.{by_case}
use Rattle.dwarf_expressions.specs.Values.{value_of}

some : (k : ℕ) → 0 < 2 ^ k
some k = one-le-pow k 2 (lit< tt)

-- ---- whole numbers

-- a number below 2^64 is its value
pub small_value : (n : ℕ) → n < 2 ^ 64 → n ≡ value_of 8 (pos n)
small_value n below = sym (mod-eq_of_lt below)

-- the word of a number is its value
pub word_value : (z : ℤ) → unsigned_abs z < 2 ^ 64 → of_z w64 z ≡ value_of 8 z
word_value (pos a) below = small_value a below
word_value (negsuc a) below = let small : a % 2 ^ 64 ≡ a = mod-eq_of_lt (omega arith) in omega (arith, small)

-- ---- shifts

le_lt : {a b c : ℕ} → a ≤ b → b < c → a < c
le_lt h g = omega arith

magnitude : (z : ℤ) → FitsSigned w64 z → unsigned_abs z ≤ 2 ^ 63
magnitude (pos a) fits = let h = fits.sfits in omega arith
magnitude (negsuc a) fits = fits.sfits

-- a number that is shifted by 64 places or more
wide : (r : ℕ) → 64 ≤ r → 2 ^ 64 ≤ 2 ^ r
wide r h = pow-le-pow_right (lit< tt) h

shifted_low : (l r : ℕ) → l < 2 ^ 64 → 64 ≤ r → l / 2 ^ r < 1
shifted_low l r below h = div_below l (2 ^ r) 1 (some r) (omega (arith, wide r h))

pub shifted_out : (l r : ℕ) → 64 ≤ r → 0 ≡ l * 2 ^ r % 2 ^ 64
shifted_out l r h =
    let split : (r - 64) + 64 ≡ r = omega arith in
    let parts : l * 2 ^ r ≡ l * 2 ^ (r - 64) * 2 ^ 64 + 0 = ap (λ (k : ℕ). l * 2 ^ k) (sym split) ∙ ap (λ (k : ℕ). l * k) (pow-add 2 (r - 64) 64) ∙ flat l (2 ^ (r - 64)) (2 ^ 64) in
    sym (ap (λ (k : ℕ). k % 2 ^ 64) parts ∙ mod-mul-add (l * 2 ^ (r - 64)) (2 ^ 64) 0 (lit< tt))
  where
    flat : (a b c : ℕ) → a * (b * c) ≡ a * b * c + 0
    flat a b c = omega arith

pub shifted_away : (l r : ℕ) → l < 2 ^ 64 → 64 ≤ r → 0 ≡ l / 2 ^ r % 2 ^ 64
shifted_away l r below h = omega (arith, shifted_low l r below h, mod-le (l / 2 ^ r) (2 ^ 64))

-- with its sign, a number of 64 bits is shifted by 63 places as by more
as_by_63 : (a r : ℕ) → a < 2 ^ 63 → a / 2 ^ min r 63 ≡ a / 2 ^ r
as_by_63 a r below =
    by_case (nat_le r 63)
    (λ is. let same : min r 63 ≡ r = grind arith in ap (λ (k : ℕ). a / 2 ^ k) same)
    (λ is.
    let by : min r 63 ≡ 63 = grind arith in
    let far : 64 ≤ r = grind arith in
    let first : a / 2 ^ min r 63 < 1 = rw by (div_below a (2 ^ 63) 1 (lit< tt) (omega arith)) in
    omega (arith, shifted_low a r (omega arith) far))

pub sign_shifted : (x : ℤ) (r : ℕ) → FitsSigned w64 x → shr_z x (2 ^ min r 63) ≡ shr_z x (2 ^ r)
sign_shifted (pos a) r fits = ap pos (as_by_63 a r fits.sfits)
sign_shifted (negsuc a) r fits = ap negsuc (as_by_63 a r fits.sfits)

-- .. of the signed word
pub signed_word : (x : ℤ) (k : ℕ) → FitsSigned w64 x → to_z w64 (of_z w64 (shr_z (to_z w64 (of_z w64 x)) k)) ≡ shr_z x k
signed_word x k fits =
    let same = to_z-of_z w64 x fits in
    let small : FitsSigned w64 (shr_z x k) = record { sfits = le_lt (mag_shr x k) fits.sfits } in
    rw same (to_z-of_z w64 (shr_z x k) small)

pub shift_fits : (x : ℤ) (k : ℕ) → FitsSigned w64 x → unsigned_abs (shr_z x k) < 2 ^ 64
shift_fits x k fits = omega (arith, magnitude (shr_z x k) (record { sfits = le_lt (mag_shr x k) fits.sfits }))

-- the lowest bytes of a word are the word, if they are all
pub all_bytes : (word size : ℕ) → word < 2 ^ 64 → 8 ≤ size → word ≡ word % 2 ^ (8 * size)
all_bytes word size below all = sym (mod-eq_of_lt (let high : 2 ^ 64 ≤ 2 ^ (8 * size) = wide (8 * size) (omega arith) in omega arith))
