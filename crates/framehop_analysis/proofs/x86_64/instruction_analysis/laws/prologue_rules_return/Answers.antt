use Rattle.framehop_analysis.proofs.PrologueReturns.{recognised_returns}
use Rattle.framehop_analysis.proofs.x86_64.instruction_analysis.laws.prologue_rules_return.Goals as goal

pub returns : goal.returns
returns c = recognised_returns
