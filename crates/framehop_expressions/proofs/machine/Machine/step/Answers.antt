use Rattle.std.proofs.Common.{Result, subst, sym}
use Rattle.framehop_registers.proofs.Laws.{over_weaker}
use Rattle.framehop_expressions.specs.Evaluation.{Machine}
use Rattle.framehop_expressions.specs.MachineViews.{Becomes, frame_of}
use Rattle.framehop_expressions.specs.declared.unknown.Unknown.{Unknown}
use Rattle.framehop_expressions.proofs.Turns.{read-then}
use Rattle.framehop_expressions.proofs.machine.Machine.step.Goals as goal

pub returns-in-Ok-clause-steps : goal.returns-in-Ok-clause-steps
returns-in-Ok-clause-steps g c =
    let mid = c.read_operation.new.self in
    over_weaker c.perform.ensures.steps (λ words is.
    let P : Result Machine Unknown → Type 0 = λ expected. Becomes expected c.perform.result c.perform.new.self in
    subst P (sym (read-then (frame_of c.args.registers.now words) c.args.self.now mid c.in-Ok.operation c.in-Ok.ensures.read c.in-Ok.ensures.expression c.in-Ok.ensures.stack)) is)
