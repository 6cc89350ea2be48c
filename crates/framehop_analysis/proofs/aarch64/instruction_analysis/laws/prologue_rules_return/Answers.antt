use Rattle.framehop_analysis.proofs.PrologueReturnsAarch64.{recognised_returns}
use Rattle.framehop_analysis.proofs.aarch64.instruction_analysis.laws.prologue_rules_return.Goals as goal

pub returns : goal.returns
returns c = recognised_returns
