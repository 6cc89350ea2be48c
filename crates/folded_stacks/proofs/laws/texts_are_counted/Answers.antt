use Rattle.folded_stacks.proofs.Texts.{texts-are-counted}
use Rattle.folded_stacks.proofs.laws.texts_are_counted.Goals as goal

pub returns : goal.returns
returns c = texts-are-counted
