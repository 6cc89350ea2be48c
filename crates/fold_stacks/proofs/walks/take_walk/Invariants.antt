use Rattle.std.proofs.Common.{◌≡◌}
use Rattle.sample_stacks.specs.Modules.{ranges_left}
use Rattle.fold_stacks.proofs.walks.take_walk.Given as goal

abbrev pub invariant-walks : goal.invariant-walks
invariant-walks g l = l.modules.unwinder ≡ l.unwinder

abbrev pub decreases-walks : goal.decreases-walks
decreases-walks g l = ranges_left l.modules
