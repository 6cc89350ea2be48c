use Rattle.framehop_expressions.proofs.Numbers.{all_bytes}
use Rattle.framehop_expressions.proofs.machine.low_bytes.Goals as goal

pub returns-else-size-lt8 : goal.returns-else-size-lt8
returns-else-size-lt8 c = all_bytes c.args.word c.args.size c.ranges.word.fits c.if-size-lt8.false
