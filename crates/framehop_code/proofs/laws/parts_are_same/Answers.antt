use Rattle.framehop_code.proofs.Parts.{same_parts}
use Rattle.framehop_code.proofs.laws.parts_are_same.Goals as goal

pub returns : goal.returns
returns c = same_parts
