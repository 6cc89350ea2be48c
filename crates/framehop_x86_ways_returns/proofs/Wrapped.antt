-- Sums modulo 2^64.
use Rattle.std.proofs.Common.{◌≡◌, ◌∙◌, ℕ, ◌+◌, ◌<◌, ◌≤◌, ◌^◌, sym, ap, arith, Bool, true, false, inl, inr}
use Rattle.std.specs.Prelude.{ℤ, pos, negsuc, ◌+ℤ◌, ◌-ℤ◌, ◌*ℤ◌, ◌≤ℤ◌, ◌/◌, ◌⊎◌}
use Rattle.std.proofs.lemmas.Int.{ints}
use Rattle.std.proofs.lemmas.Bool.Decides.{nat_tests}
use Rattle.framehop_analysis.specs.MachineAarch64.{wrapped, moved}
use Rattle.framehop_x86_ways.specs.Values.{is_near, is_apart}

-- the number is its rest and a multiple
record IsWrapped (z : ℤ) (rest : ℕ) : Type 0 where
  pub fits : rest < 2 ^ 64
  pub times : ℤ
  pub is : z ≡ pos rest +ℤ pos (2 ^ 64) *ℤ times

is_wrapped : (z : ℤ) → IsWrapped z (wrapped z)
is_wrapped (pos n) = record { fits = omega arith; times = pos (n / 2 ^ 64); is = omega (arith, ints) }
is_wrapped (negsuc n) = record { fits = omega arith; times = negsuc (n / 2 ^ 64); is = omega (arith, ints) }

same_rest : (z : ℤ) (a b : ℕ) → IsWrapped z a → IsWrapped z b → a ≡ b
same_rest z a b one other = omega (arith, ints, one.fits, other.fits, one.is, other.is)

pub moved_fits : (a : ℕ) (z : ℤ) → moved a z < 2 ^ 64
moved_fits a z = (is_wrapped (pos a +ℤ z)).fits

pub moved_again : (a : ℕ) (y z : ℤ) → moved (moved a y) z ≡ moved a (y +ℤ z)
moved_again a y z =
    let first = is_wrapped (pos a +ℤ y) in
    let second = is_wrapped (pos (moved a y) +ℤ z) in
    let whole = is_wrapped (pos a +ℤ (y +ℤ z)) in
    same_rest (pos a +ℤ (y +ℤ z)) (moved (moved a y) z) (moved a (y +ℤ z))
    (record { fits = second.fits; times = first.times +ℤ second.times; is = omega (arith, ints, first.is, second.is) }) whole

pub stays : (a : ℕ) → a < 2 ^ 64 → moved a (pos 0) ≡ a
stays a fits = same_rest (pos a +ℤ pos 0) (moved a (pos 0)) a (is_wrapped (pos a +ℤ pos 0)) (record { fits = fits; times = pos 0; is = omega (arith, ints) })

-- a sum that is an address doesn't wrap
pub not_wrapped : (a b : ℕ) (z : ℤ) → pos a +ℤ z ≡ pos b → b < 2 ^ 64 → moved a z ≡ b
not_wrapped a b z is fits = same_rest (pos a +ℤ z) (moved a z) b (is_wrapped (pos a +ℤ z)) (record { fits = fits; times = pos 0; is = omega (arith, ints, is) })

-- from so many bytes above an address
pub moved_above : (a m : ℕ) (z : ℤ) → moved (a + m) z ≡ moved a (pos m +ℤ z)
moved_above a m z = ap wrapped (omega (arith, ints))

-- ---- words that are near a base, and apart

pub record IsNear (z : ℤ) : Type 0 where
  pub low : negsuc (2 ^ 31) ≤ℤ z
  pub high : z ≤ℤ pos (2 ^ 31)

pub near : (z : ℤ) → is_near z ≡ true → IsNear z
near (pos n) is = let below : n < 2 ^ 31 = grind (arith, nat_tests) in record { low = omega (arith, ints); high = omega (arith, ints, below) }
near (negsuc n) is = let below : n < 2 ^ 31 = grind (arith, nat_tests) in record { low = omega (arith, ints, below); high = omega (arith, ints) }

pub below_call : (z : ℤ) → is_apart true z ≡ true → z ≤ℤ negsuc 7
below_call (pos n) is = cc
below_call (negsuc n) is = let far : 7 ≤ n = grind (arith, nat_tests) in omega (arith, ints, far)

apart : (is_call : Bool) (z : ℤ) → is_apart is_call z ≡ true → (pos 8 ≤ℤ z) ⊎ (z ≤ℤ negsuc 7)
apart true z is = inr (below_call z is)
apart false (pos n) is = let far : 8 ≤ n = grind (arith, nat_tests) in inl (omega (arith, ints, far))
apart false (negsuc n) is = let far : 7 ≤ n = grind (arith, nat_tests) in inr (omega (arith, ints, far))

pub not_the_same : (a : ℕ) (is_call : Bool) (y z : ℤ) → is_near y ≡ true → is_near z ≡ true → is_apart is_call (z -ℤ y) ≡ true → moved a y ≡ moved a z → ⊥
not_the_same a is_call y z y_near z_near far same =
    let one = is_wrapped (pos a +ℤ y) in
    let other = is_wrapped (pos a +ℤ z) in
    let y_is = near y y_near in
    let z_is = near z z_near in
    elim (apart is_call (z -ℤ y) far) [
      | inl above ↦ omega (arith, ints, one.is, other.is, y_is.low, y_is.high, z_is.low, z_is.high, above, same)
      | inr below ↦ omega (arith, ints, one.is, other.is, y_is.low, y_is.high, z_is.low, z_is.high, below, same)
    ]

-- a word of a frame isn't one below its foot
pub not_in_frame : (a m : ℕ) (y z : ℤ) → m < 2 ^ 31 → pos 0 ≤ℤ y → is_near y ≡ true → z ≤ℤ negsuc 7 → is_near z ≡ true → moved (a + m) y ≡ moved a z → ⊥
not_in_frame a m y z few y_above y_near z_below z_near same =
    let one = is_wrapped (pos (a + m) +ℤ y) in
    let other = is_wrapped (pos a +ℤ z) in
    let y_is = near y y_near in
    let z_is = near z z_near in
    omega (arith, ints, one.is, other.is, few, y_above, y_is.high, z_is.low, z_below, same)

-- ---- what is above an address

pub record IsAboveBy (low high : ℕ) : Type 0 where
  pub bytes : ℕ
  pub few : bytes < 2 ^ 63
  pub is : moved low (pos bytes) ≡ high

pub above_by : (a : ℕ) (y z : ℤ) → y ≤ℤ z → negsuc (2 ^ 40) ≤ℤ y → z ≤ℤ pos (2 ^ 40) → IsAboveBy (moved a y) (moved a z)
above_by a y z below low high = go (z -ℤ y) (omega (arith, ints))
  where
    go : (d : ℤ) → z ≡ y +ℤ d → IsAboveBy (moved a y) (moved a z)
    go (pos n) is = record { bytes = n; few = omega (arith, ints, is, below, low, high); is = moved_again a y (pos n) ∙ ap (moved a) (sym is) }
    go (negsuc n) is = absurd (omega (arith, ints, is, below))
