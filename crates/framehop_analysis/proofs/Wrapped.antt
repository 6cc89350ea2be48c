-- Sums modulo 2^64.
use Rattle.std.proofs.Common.{◌≡◌, ℕ, ◌<◌, ◌^◌, arith}
use Rattle.std.specs.Prelude.{ℤ, pos, negsuc, ◌+ℤ◌, ◌*ℤ◌, ◌/◌}
use Rattle.std.proofs.lemmas.Int.{ints}
use Rattle.framehop_analysis.specs.MachineAarch64.{wrapped, moved}

-- the number is its rest and a multiple
record IsWrapped (z : ℤ) (rest : ℕ) : Type 0 where
  pub fits : rest < 2 ^ 64
  pub times : ℤ
  pub is : z ≡ pos rest +ℤ pos (2 ^ 64) *ℤ times

is_wrapped : (z : ℤ) → IsWrapped z (wrapped z)
is_wrapped (pos n) = record { fits = omega arith; times = pos (n / 2 ^ 64); is = omega (arith, ints) }
is_wrapped (negsuc n) = record { fits = omega arith; times = negsuc (n / 2 ^ 64); is = omega (arith, ints) }

same_rest : (z : ℤ) (a b : ℕ) → IsWrapped z a → IsWrapped z b → a ≡ b
same_rest z a b one other = omega (arith, ints, one.fits, other.fits, one.is, other.is)

pub moved_again : (a : ℕ) (y z : ℤ) → moved (moved a y) z ≡ moved a (y +ℤ z)
moved_again a y z =
    let first = is_wrapped (pos a +ℤ y) in
    let second = is_wrapped (pos (moved a y) +ℤ z) in
    let whole = is_wrapped (pos a +ℤ (y +ℤ z)) in
    same_rest (pos a +ℤ (y +ℤ z)) (moved (moved a y) z) (moved a (y +ℤ z))
    (record { fits = second.fits; times = first.times +ℤ second.times; is = omega (arith, ints, first.is, second.is) }) whole

pub stays : (a : ℕ) → a < 2 ^ 64 → moved a (pos 0) ≡ a
stays a fits = same_rest (pos a +ℤ pos 0) (moved a (pos 0)) a (is_wrapped (pos a +ℤ pos 0)) (record { fits = fits; times = pos 0; is = omega (arith, ints) })

-- a sum that is an address doesn't wrap
pub not_wrapped : (a b : ℕ) (z : ℤ) → pos a +ℤ z ≡ pos b → b < 2 ^ 64 → moved a z ≡ b
not_wrapped a b z is fits = same_rest (pos a +ℤ z) (moved a z) b (is_wrapped (pos a +ℤ z)) (record { fits = fits; times = pos 0; is = omega (arith, ints, is) })

pub moved_fits : (a : ℕ) (z : ℤ) → moved a z < 2 ^ 64
moved_fits a z = (is_wrapped (pos a +ℤ z)).fits
