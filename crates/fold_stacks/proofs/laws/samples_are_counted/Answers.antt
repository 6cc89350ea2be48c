use Rattle.fold_stacks.proofs.Recorded.{samples-are-counted}
use Rattle.fold_stacks.proofs.laws.samples_are_counted.Goals as goal

pub returns : goal.returns
returns c = samples-are-counted
