use Rattle.std.proofs.Common.{◌≡◌, ◌≤◌, length, take, drop, ◌-◌, true}
use Rattle.framehop_unwinder.specs.IdViews.{has_both}
use Rattle.framehop_calls.specs.SampleSteps.{KeepsModules}
use Rattle.framehop_calls.specs.SampleWalks.{Passes, through, walk_in}
use Rattle.framehop_calls.proofs.sample_walks.walk_by_moves.Given as goal

-- the walk passed the frames that are written, and what is behind them is as it was
abbrev pub invariant-loop-count : goal.invariant-loop-count
invariant-loop-count g l = record {
  room : l.count ≤ length l.frames;
  passed : Passes (through g.A.ModuleUnwinding.meanings l.fn.unwinder l.fn.cache l.fn.sample)
      (walk_in l.fn.walk l.fn.session) (take l.count l.frames) (walk_in l.walk l.session);
  kept : drop l.count l.frames ≡ drop l.count l.fn.frames;
  session : KeepsModules l.fn.session l.session;
  there : has_both l.session l.fn.unwinder l.fn.cache ≡ true;
}

abbrev pub decreases-loop-count : goal.decreases-loop-count
decreases-loop-count g l = length l.frames - l.count
