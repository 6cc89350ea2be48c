use Rattle.std.proofs.lemmas.Nat.{xor_lt}
use Rattle.std.specs.Prelude.{bit_xor}
use Rattle.framehop_expressions.proofs.Numbers.{small_value}
use Rattle.framehop_expressions.proofs.value.xor.Goals as goal

pub returns : goal.returns
returns c = small_value (bit_xor c.args.left c.args.right) (xor_lt 64 c.args.left c.args.right c.ranges.left.fits c.ranges.right.fits)
