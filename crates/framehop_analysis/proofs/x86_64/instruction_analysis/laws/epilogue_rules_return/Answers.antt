use Rattle.framehop_analysis.proofs.EpilogueReturns.{recognised_returns}
use Rattle.framehop_analysis.proofs.x86_64.instruction_analysis.laws.epilogue_rules_return.Goals as goal

pub returns : goal.returns
returns c = recognised_returns
