use Rattle.folded_stacks.proofs.Order.{lines-are-in-order}
use Rattle.folded_stacks.proofs.laws.lines_are_in_order.Goals as goal

pub returns : goal.returns
returns c = lines-are-in-order
