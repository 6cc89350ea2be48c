use Rattle.std.proofs.Common.{◌-◌, subst}
use Rattle.std.proofs.lemmas.Result.{err_from_is_err_and}
use Rattle.dwarf_expressions.specs.Evaluation.{StackMachine, machine_after}
use Rattle.dwarf_expressions.specs.EvaluationViews.{Changes, Course}
use Rattle.dwarf_expressions.proofs.Machines.{stack_refused}
use Rattle.dwarf_expressions.proofs.machine.StackMachine.change.Goals as goal

pub returns-in_err-apply-clause-changes : goal.returns-in_err-apply-clause-changes
returns-in_err-apply-clause-changes g c =
    let p = err_from_is_err_and c.from_residual.result c.from_residual.ensures.1 in
    let inside = c.self.inside in
    let expression = g.R.Reader.stretch inside.expression in
    let offset = (g.R.Reader.stretch inside.rest).offset - expression.offset in
    let next : StackMachine = record { stack = c.apply.new.self.values; offset = offset; left = inside.left } in
    let now : Course = record {
      program = record { expression = expression; address_size = inside.encoding.address_size; capacity = g.L.ArrayLike.capacity };
      machine = record { stack = inside.stack.values; offset = offset; left = inside.left };
    } in
    let P : Course → Type 0 = λ course. Changes course.program.capacity (machine_after course.program course.machine c.args.operation) c.from_residual.result next in
    subst P c.self.view_is
    (stack_refused now.program now.machine next c.args.operation inside.stack.address_size p.0 c.in_err-apply.field-0.0 c.from_residual.result c.self.invariant.1 p.1 p.2 c.in_err-apply.ensures.becomes)
