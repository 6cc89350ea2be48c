use Rattle.std.proofs.Common.{◌≡◌}
use Rattle.dwarf_expressions.specs.Evaluation.{run}
use Rattle.dwarf_expressions.proofs.machine.StackMachine.run.Given as goal

abbrev pub invariant-loop-self : goal.invariant-loop-self
invariant-loop-self g l = record {
  program : l.self.program ≡ l.initial.self.program;
  same : run l.self.program l.self.machine ≡ run l.initial.self.program l.initial.self.machine;
}

abbrev pub decreases-loop-self : goal.decreases-loop-self
decreases-loop-self g l = l.self.machine.left
