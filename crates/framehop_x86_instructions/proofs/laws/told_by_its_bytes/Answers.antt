use Rattle.framehop_x86_instructions.proofs.Beginnings.{beginning}
use Rattle.framehop_x86_instructions.proofs.laws.told_by_its_bytes.Goals as goal

pub returns : goal.returns
returns c = beginning
