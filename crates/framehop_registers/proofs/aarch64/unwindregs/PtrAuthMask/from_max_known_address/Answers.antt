use Rattle.std.proofs.Common.{◌≡◌, ◌∙◌, ap, ℕ, ◌+◌, ◌-◌, ◌*◌, ◌^◌, ◌/◌, ◌<◌, ◌≤◌, arith, add-one}
use Rattle.std.proofs.Math.Nat.{lt_of_not-le, pow-suc}
use Rattle.std.proofs.Math.Pow.{pow_mono}
use Rattle.std.proofs.lemmas.Nat.Bits.{ones_shr}
use Rattle.std.specs.Int.Count.{count_leading_zeros, leading_unique}
use Rattle.framehop_registers.specs.RegistersAarch64.{low_bits, IsHighestBit}
use Rattle.framehop_registers.proofs.aarch64.unwindregs.PtrAuthMask.from_max_known_address.Goals as goal

-- a number of 64 bits has its highest bit below place 64
below_64 : (number place : ℕ) → 2 ^ place ≤ number → number < 2 ^ 64 → place < 64
below_64 number place reached fits =
    lt_of_not-le (λ (past : 64 ≤ place). let more : 2 ^ 64 ≤ 2 ^ place = pow_mono past in absurd (omega arith))

-- all bits that aren't leading zeros
ones : (number place : ℕ) → IsHighestBit number place → number < 2 ^ 64
    → (2 ^ 64 - 1) / 2 ^ count_leading_zeros 64 number ≡ low_bits (place + 1)
ones number place highest fits =
    let below : place < 64 = below_64 number place highest.reached fits in
    let double : 2 ^ (place + 1) ≡ 2 ^ place * 2 = rw add-one (pow-suc 2 place) in
    let zeros : 63 - place ≡ count_leading_zeros 64 number =
    leading_unique 64 number (63 - place) (place + 1) (omega arith) highest.not_passed (omega (arith, double, highest.reached)) in
    let left : 64 - (63 - place) ≡ place + 1 = omega arith in
    rw (← zeros) (ones_shr 64 (63 - place) (omega arith) ∙ ap low_bits left)

pub returns-clause-ones : goal.returns-clause-ones
returns-clause-ones c = λ place highest. ones c.args.address place highest c.ranges.address.fits
