use Rattle.std.proofs.Common.{◌≡◌, ◌≤◌, ◌-◌, length, take, drop}
use Rattle.framehop_unwinder.specs.CacheViews.{rules_of}
use Rattle.framehop_unwinder.specs.Runs.{PassesFrames, StepsWith, point}
use Rattle.framehop_unwinder.proofs.runs.run_steps.Given as goal

-- the run passed the frames that are written, and what is behind them is as it was
abbrev pub invariant-loop-count : goal.invariant-loop-count
invariant-loop-count g l = record {
  room : l.count ≤ length l.frames;
  passed : PassesFrames (StepsWith (goal.F-step g) g.A.UnwindRule.UnwindRule.reads g.A.ModuleUnwinding.meanings l.fn.unwinder)
      (point l.fn.at l.fn.regs l.fn.read_stack (rules_of l.fn.cache)) (take l.count l.frames)
      (point l.at l.regs l.read_stack (rules_of l.cache));
  kept : drop l.count l.frames ≡ drop l.count l.fn.frames;
  callable : goal.F-IsAlwaysCallable g l.read_stack;
}

abbrev pub decreases-loop-count : goal.decreases-loop-count
decreases-loop-count g l = length l.frames - l.count
