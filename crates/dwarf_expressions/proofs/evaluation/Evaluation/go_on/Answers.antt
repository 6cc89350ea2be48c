use Rattle.std.proofs.Common.{◌≡◌, inl, subst, sym, ap, ◌∙◌}
use Rattle.dwarf_expressions.specs.Evaluation.{EvaluationModel, operations_left}
use Rattle.dwarf_expressions.specs.EvaluationViews.{IsReady}
use Rattle.dwarf_expressions.proofs.Requests.{asks_fewer, ready_left, refused_grows}
use Rattle.dwarf_expressions.proofs.evaluation.Evaluation.go_on.Goals as goal

pub returns-in-Ok-Asking-clause-fewer : goal.returns-in-Ok-Asking-clause-fewer
returns-in-Ok-Asking-clause-fewer g c register is =
    let inside = c.self.inside in
    let m = inside.machine.machine in
    let less = asks_fewer inside.machine.program.capacity inside.machine.program m c.run.new.self.machine c.in-Ok-Asking.field-0 c.in-Ok-Asking.register c.in-Ok-Asking.offset c.in-Ok-Asking.ensures.stops c.in-Ok-Asking.field-0-is in
    let P : EvaluationModel → Type 0 = λ e. IsReady e.state in
    let left : operations_left c.args.self.now.state ≡ m.left
    = ap (λ (e : EvaluationModel). operations_left e.state) (sym c.self.view_is) ∙ ready_left inside.state m (subst P (sym c.self.view_is) c.requires) in
    rw left less

pub returns-in-Err-clause-memory : goal.returns-in-Err-clause-memory
returns-in-Err-clause-memory g c is =
    let inside = c.self.inside in
    inl (ap (λ (e : EvaluationModel). e.program.capacity) (sym c.self.view_is)
    ∙ refused_grows inside.machine.program.capacity inside.machine.program inside.machine.machine c.run.new.self.machine c.in-Err.error c.refuse.result c.in-Err.ensures.stops c.refuse.ensures.answer is)
