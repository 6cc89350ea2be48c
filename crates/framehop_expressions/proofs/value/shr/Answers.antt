use Rattle.framehop_expressions.proofs.Numbers.{shifted_away}
use Rattle.framehop_expressions.proofs.value.shr.Goals as goal

pub returns-else-right-lt64 : goal.returns-else-right-lt64
returns-else-right-lt64 c = shifted_away c.args.left c.args.right c.ranges.left.fits c.if-right-lt64.false
