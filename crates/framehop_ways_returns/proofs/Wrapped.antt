-- Sums modulo 2^64.
use Rattle.std.proofs.Common.{◌≡◌, ℕ, ◌<◌, ◌≤◌, ◌^◌, arith, true, inl, inr}
use Rattle.std.specs.Prelude.{ℤ, pos, negsuc, ◌+ℤ◌, ◌-ℤ◌, ◌*ℤ◌, ◌≤ℤ◌, ◌/◌, ◌⊎◌}
use Rattle.std.proofs.lemmas.Int.{ints}
use Rattle.std.proofs.lemmas.Bool.Decides.{nat_tests}
use Rattle.framehop_analysis.specs.MachineAarch64.{wrapped, moved}
use Rattle.framehop_ways.specs.Values.{is_near, is_apart}

-- the number is its rest and a multiple
record IsWrapped (z : ℤ) (rest : ℕ) : Type 0 where
  pub fits : rest < 2 ^ 64
  pub times : ℤ
  pub is : z ≡ pos rest +ℤ pos (2 ^ 64) *ℤ times

is_wrapped : (z : ℤ) → IsWrapped z (wrapped z)
is_wrapped (pos n) = record { fits = omega arith; times = pos (n / 2 ^ 64); is = omega (arith, ints) }
is_wrapped (negsuc n) = record { fits = omega arith; times = negsuc (n / 2 ^ 64); is = omega (arith, ints) }

same_rest : (z : ℤ) (a b : ℕ) → IsWrapped z a → IsWrapped z b → a ≡ b
same_rest z a b one other = omega (arith, ints, one.fits, other.fits, one.is, other.is)

pub moved_again : (a : ℕ) (y z : ℤ) → moved (moved a y) z ≡ moved a (y +ℤ z)
moved_again a y z =
    let first = is_wrapped (pos a +ℤ y) in
    let second = is_wrapped (pos (moved a y) +ℤ z) in
    let whole = is_wrapped (pos a +ℤ (y +ℤ z)) in
    same_rest (pos a +ℤ (y +ℤ z)) (moved (moved a y) z) (moved a (y +ℤ z))
    (record { fits = second.fits; times = first.times +ℤ second.times; is = omega (arith, ints, first.is, second.is) }) whole

pub stays : (a : ℕ) → a < 2 ^ 64 → moved a (pos 0) ≡ a
stays a fits = same_rest (pos a +ℤ pos 0) (moved a (pos 0)) a (is_wrapped (pos a +ℤ pos 0)) (record { fits = fits; times = pos 0; is = omega (arith, ints) })

-- a sum that is an address doesn't wrap
pub not_wrapped : (a b : ℕ) (z : ℤ) → pos a +ℤ z ≡ pos b → b < 2 ^ 64 → moved a z ≡ b
not_wrapped a b z is fits = same_rest (pos a +ℤ z) (moved a z) b (is_wrapped (pos a +ℤ z)) (record { fits = fits; times = pos 0; is = omega (arith, ints, is) })

-- ---- words that are near a base, and apart

record IsNear (z : ℤ) : Type 0 where
  low : negsuc (2 ^ 31) ≤ℤ z
  high : z ≤ℤ pos (2 ^ 31)

near : (z : ℤ) → is_near z ≡ true → IsNear z
near (pos n) is = let below : n < 2 ^ 31 = grind (arith, nat_tests) in record { low = omega (arith, ints); high = omega (arith, ints, below) }
near (negsuc n) is = let below : n < 2 ^ 31 = grind (arith, nat_tests) in record { low = omega (arith, ints, below); high = omega (arith, ints) }

apart : (z : ℤ) → is_apart z ≡ true → (pos 8 ≤ℤ z) ⊎ (z ≤ℤ negsuc 7)
apart (pos n) is = let far : 8 ≤ n = grind (arith, nat_tests) in inl (omega (arith, ints, far))
apart (negsuc n) is = let far : 7 ≤ n = grind (arith, nat_tests) in inr (omega (arith, ints, far))

pub not_the_same : (a : ℕ) (y z : ℤ) → is_near y ≡ true → is_near z ≡ true → is_apart (z -ℤ y) ≡ true → moved a y ≡ moved a z → ⊥
not_the_same a y z y_near z_near far same =
    let one = is_wrapped (pos a +ℤ y) in
    let other = is_wrapped (pos a +ℤ z) in
    let y_is = near y y_near in
    let z_is = near z z_near in
    elim (apart (z -ℤ y) far) [
      | inl above ↦ omega (arith, ints, one.is, other.is, y_is.low, y_is.high, z_is.low, z_is.high, above, same)
      | inr below ↦ omega (arith, ints, one.is, other.is, y_is.low, y_is.high, z_is.low, z_is.high, below, same)
    ]
