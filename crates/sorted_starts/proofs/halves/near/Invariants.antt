use Rattle.sorted_starts.specs.Halves.{AreLeft}
use Rattle.sorted_starts.proofs.halves.near.Given as goal

abbrev pub invariant-far : goal.invariant-far
invariant-far g l = AreLeft (g.T.Starts.count l.starts) (g.T.Starts.start l.starts) l.fn.limit l.left

abbrev pub decreases-far : goal.decreases-far
decreases-far g l = l.left.len
