use Rattle.std.specs.Prelude.{codes}
use Rattle.fold_stacks.proofs.NamedFrames.{unknown-named}
use Rattle.fold_stacks.proofs.labels.Labels.number_of_frame.Goals as goal

pub returns-in-None-clause-number : goal.returns-in-None-clause-number
returns-in-None-clause-number g c =
    rw c.in_default.is
    (unknown-named c.number_of_unknown-in-None.new.self.names (codes "unknown") c.number_of_unknown-in-None.result c.number_of_unknown-in-None.ensures.number)
