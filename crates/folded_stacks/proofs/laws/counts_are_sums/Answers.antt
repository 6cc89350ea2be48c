use Rattle.folded_stacks.proofs.Sums.{counts-are-sums}
use Rattle.folded_stacks.proofs.laws.counts_are_sums.Goals as goal

pub returns : goal.returns
returns c = counts-are-sums
