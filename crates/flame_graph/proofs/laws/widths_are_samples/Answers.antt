use Rattle.flame_graph.proofs.Widths.{widths-all, widths-deep}
use Rattle.flame_graph.proofs.laws.widths_are_samples.Goals as goal

pub returns-clause-each : goal.returns-clause-each
returns-clause-each c = λ depth stacks. widths-deep depth stacks

pub returns-clause-outermost : goal.returns-clause-outermost
returns-clause-outermost c = λ stacks. widths-all stacks
