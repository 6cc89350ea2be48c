use Rattle.std.proofs.Common.{◌≡◌, ◌-◌}
use Rattle.framehop_registers.specs.Callback.{OverWords}
use Rattle.framehop_expressions.specs.Evaluation.{expression_value, turns, value_within}
use Rattle.framehop_expressions.specs.MachineViews.{frame_of}
use Rattle.framehop_expressions.proofs.evaluation.evaluate.Given as goal

abbrev pub invariant-loop-turn : goal.invariant-loop-turn
invariant-loop-turn g l = record {
  callable : goal.F-IsAlwaysCallable g l.read;
  value : OverWords (goal.F-step g) l.fn.read l.read (λ words.
      value_within (turns - l.turn) (frame_of l.registers words) l.machine
      ≡ expression_value (frame_of l.registers words) (g.R.Reader.stretch l.fn.expression.0) l.fn.first);
}
