use Rattle.framehop_x86_ways_returns.proofs.RuleReturns.{way_returns}
use Rattle.framehop_x86_ways_returns.proofs.laws.ways_return.Goals as goal

pub returns : goal.returns
returns c = way_returns
