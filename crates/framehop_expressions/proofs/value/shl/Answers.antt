use Rattle.framehop_expressions.proofs.Numbers.{shifted_out}
use Rattle.framehop_expressions.proofs.value.shl.Goals as goal

pub returns-else-right-lt64 : goal.returns-else-right-lt64
returns-else-right-lt64 c = shifted_out c.args.left c.args.right c.if-right-lt64.false
