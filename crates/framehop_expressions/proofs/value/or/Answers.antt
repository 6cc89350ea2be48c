use Rattle.std.proofs.lemmas.Nat.{or_lt}
use Rattle.std.specs.Prelude.{bit_or}
use Rattle.framehop_expressions.proofs.Numbers.{small_value}
use Rattle.framehop_expressions.proofs.value.or.Goals as goal

pub returns : goal.returns
returns c = small_value (bit_or c.args.left c.args.right) (or_lt 64 c.args.left c.args.right c.ranges.left.fits c.ranges.right.fits)
