use Rattle.std.proofs.Common.{arith}
use Rattle.json_program.proofs.Digits.{digits_fit}
use Rattle.json_program.proofs.address.number_of.Goals as goal

pub overflow_mul-number : goal.overflow_mul-number
overflow_mul-number c = omega (arith, digits_fit _ _ 0 c.loop-c.invariant.1 (omega arith) (omega arith))

pub overflow_add-number : goal.overflow_add-number
overflow_add-number c =
    omega (arith, digits_fit _ _ c.in_ok-digit_of.field-0 c.loop-c.invariant.1 (omega arith) c.in_ok-digit_of.ensures.small)
