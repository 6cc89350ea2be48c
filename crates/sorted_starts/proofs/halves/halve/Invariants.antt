use Rattle.sorted_starts.specs.Halves.{AreLeft}
use Rattle.sorted_starts.proofs.halves.halve.Given as goal

abbrev pub invariant-halves : goal.invariant-halves
invariant-halves g l = AreLeft (g.T.Starts.count l.starts) (g.T.Starts.start l.starts) l.fn.limit l.left

abbrev pub decreases-halves : goal.decreases-halves
decreases-halves g l = l.left.len
