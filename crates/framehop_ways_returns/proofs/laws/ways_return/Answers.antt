use Rattle.framehop_ways_returns.proofs.RuleReturns.{returned}
use Rattle.framehop_ways_returns.proofs.laws.ways_return.Goals as goal

pub returns : goal.returns
returns c = returned
