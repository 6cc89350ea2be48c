-- Numbers of up to 16 hexadecimal digits fit 64 bits.
use Rattle.std.proofs.Common.{ℕ, zero, suc, ◌+◌, ◌*◌, ◌^◌, ◌<◌, ◌≤◌, arith}
use Rattle.std.proofs.Math.Nat.{pow-suc, pow-le-pow_right}

-- one more digit after i digits
pub more_digits : (i n d : ℕ) → n < 16 ^ i → d < 16 → n * 16 + d < 16 ^ suc i
more_digits i n d small digit = omega (arith, pow-suc 16 i)

-- and it fits if those were fewer than 16
pub digits_fit : (i n d : ℕ) → n < 16 ^ i → i < 16 → d < 16 → n * 16 + d < 2 ^ 64
digits_fit i n d small few digit =
    let positive : zero < 16 = omega arith in
    let up_to : suc i ≤ 16 = omega arith in
    let most : 16 ^ suc i ≤ 16 ^ 16 = pow-le-pow_right positive up_to in
    omega (arith, more_digits i n d small digit)
