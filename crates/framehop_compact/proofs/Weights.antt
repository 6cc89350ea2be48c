-- Numbers of lists, and their weights, multiplied by the factorial of how many registers aren't saved.
use Rattle.std.proofs.Common.{◌≡◌, ◌∙◌, ℕ, zero, suc, ◌-◌, ◌*◌, ◌^◌, ◌<◌, ◌≤◌, sym, ap, arith}
use Rattle.std.specs.Prelude.{◌/◌, ◌%◌}
use Rattle.std.proofs.Math.Nat.{mul_assoc, mul_comm, mul-sub, mul-div-mul_left, mod-eq-sub-mul-div}
use Rattle.framehop_compact.specs.SavedRegisters.{arrangement_count, factorial}
use Rattle.framehop_compact.proofs.PlaceOfBp.{IsLeft}

pub some_factorial : (n : ℕ) → 0 < factorial n
some_factorial zero = omega arith
some_factorial (suc n) = let some = some_factorial n in positive n (factorial n) some
  where
    positive : (a b : ℕ) → 0 < b → 0 < suc a * b
    positive a b some = grind arith

arrangement_count-factorial : (count left : ℕ) → count ≤ left → arrangement_count count left * factorial (left - count) ≡ factorial left
arrangement_count-factorial zero left fits =
    let all : left - 0 ≡ left = omega arith in
    ap (λ n. 1 * factorial n) all ∙ one (factorial left)
  where
    one : (n : ℕ) → 1 * n ≡ n
    one n = omega arith
arrangement_count-factorial (suc count) zero fits = absurd (omega arith)
arrangement_count-factorial (suc count) (suc left) fits =
    let less : suc left - suc count ≡ left - count = omega arith in
    ap (λ n. suc left * arrangement_count count left * factorial n) less
    ∙ mul_assoc (suc left) (arrangement_count count left) (factorial (left - count))
    ∙ ap (λ n. suc left * n) (arrangement_count-factorial count left (omega arith))

-- what the loop has: the number that is left, multiplied
pub record IsScaled (count start taken rest : ℕ) : Type 0 where
  pub number : ℕ
  pub scaled : rest ≡ factorial (6 - count) * number
  pub is : IsLeft count start taken number
  pub more : taken ≤ count

weight_of : (count taken weight : ℕ) → taken < count → count ≤ 6 → weight ≡ factorial (5 - taken)
    → weight ≡ factorial (6 - count) * arrangement_count (count - 1 - taken) (5 - taken)
weight_of count taken weight more fits weight_is =
    let w : ℕ = arrangement_count (count - 1 - taken) (5 - taken) in
    let others : 5 - taken - (count - 1 - taken) ≡ 6 - count = omega arith in
    weight_is ∙ sym (arrangement_count-factorial (count - 1 - taken) (5 - taken) (omega arith))
    ∙ ap (λ n. w * factorial n) others ∙ mul_comm w (factorial (6 - count))

pub scaled_place : (count taken number rest weight : ℕ) → taken < count → count ≤ 6 → rest ≡ factorial (6 - count) * number → weight ≡ factorial (5 - taken)
    → rest / weight ≡ number / arrangement_count (count - 1 - taken) (5 - taken)
scaled_place count taken number rest weight more fits rest_is weight_is =
    let w : ℕ = arrangement_count (count - 1 - taken) (5 - taken) in
    ap (λ n. n / weight) rest_is ∙ ap (λ n. factorial (6 - count) * number / n) (weight_of count taken weight more fits weight_is)
    ∙ mul-div-mul_left number w (some_factorial (6 - count))

pub scaled_rest : (count taken number rest weight : ℕ) → taken < count → count ≤ 6 → rest ≡ factorial (6 - count) * number → weight ≡ factorial (5 - taken)
    → rest % weight ≡ factorial (6 - count) * (number % arrangement_count (count - 1 - taken) (5 - taken))
scaled_rest count taken number rest weight more fits rest_is weight_is =
    let w : ℕ = arrangement_count (count - 1 - taken) (5 - taken) in
    let f : ℕ = factorial (6 - count) in
    ap (λ n. n % weight) rest_is ∙ ap (λ n. f * number % n) (weight_of count taken weight more fits weight_is)
    ∙ mod-eq-sub-mul-div (f * number) (f * w)
    ∙ ap (λ n. f * number - f * w * n) (mul-div-mul_left number w (some_factorial (6 - count)))
    ∙ ap (λ n. f * number - n) (mul_assoc f w (number / w))
    ∙ sym (mul-sub f number (w * (number / w)))
    ∙ ap (λ n. f * n) (sym (mod-eq-sub-mul-div number w))

factorial_of_six : (n : ℕ) → n ≤ 6 → factorial n ≤ 720
factorial_of_six zero fits = omega arith
factorial_of_six (suc zero) fits = omega arith
factorial_of_six (suc (suc zero)) fits = omega arith
factorial_of_six (suc (suc (suc zero))) fits = omega arith
factorial_of_six (suc (suc (suc (suc zero)))) fits = omega arith
factorial_of_six (suc (suc (suc (suc (suc zero))))) fits = omega arith
factorial_of_six (suc (suc (suc (suc (suc (suc zero)))))) fits = omega arith
factorial_of_six (suc (suc (suc (suc (suc (suc (suc n))))))) fits = absurd (omega (arith, fits))

-- a number of 16 bits, multiplied
pub few_lists : (number n x y : ℕ) → n ≤ 6 → x ≡ number → y ≡ factorial n → number < 2 ^ 16 → x * y < 2 ^ 32
few_lists number n x y fits x_is y_is few =
    let f = factorial n in
    let bound : f ≤ 720 = factorial_of_six n fits in
    let product : number * f ≤ 65535 * 720 = grind arith in
    rw (x_is, y_is) (omega (arith, product))

pub mul_comm_of : (number f x y : ℕ) → x ≡ number → y ≡ f → x * y ≡ f * number
mul_comm_of number f x y x_is y_is = ap (λ n. n * y) x_is ∙ ap (λ n. number * n) y_is ∙ mul_comm number f
