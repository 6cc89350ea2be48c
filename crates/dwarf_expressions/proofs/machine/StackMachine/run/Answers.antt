use Rattle.std.proofs.Common.{ap, inl, refl, sym, Ok, Err, arith, ◌∙◌}
use Rattle.std.proofs.lemmas.Result.{err_from_is_err_and}
use Rattle.dwarf_expressions.specs.Evaluation.{EvaluationInput, Ready, operation_step, run}
use Rattle.dwarf_expressions.specs.EvaluationViews.{stopped_state}
use Rattle.dwarf_expressions.proofs.Runs.{came_to, done_left, run_done, run_over, run_refused, stopped_stays, went_on}
use Rattle.dwarf_expressions.proofs.machine.StackMachine.run.Goals as goal

pub loop-self-smaller : goal.loop-self-smaller
loop-self-smaller g c =
    let p = c.loop-self.self.program in
    let m = c.loop-self.self.machine in
    let next = c.step.new.self.machine in
    let left = done_left p m next (went_on p m next c.in_ok-stop.field-0 c.in_ok-stop.ensures.comes c.in_default.is) in
    omega (arith, left)

pub loop-self-preserved : goal.loop-self-preserved
loop-self-preserved g c =
    let p = c.loop-self.self.program in
    let m = c.loop-self.self.machine in
    let next = c.step.new.self.machine in
    let done = went_on p m next c.in_ok-stop.field-0 c.in_ok-stop.ensures.comes c.in_default.is in
    record {
      program = c.in_ok-stop.ensures.program ∙ c.loop-self.invariant.program;
      same =
          ap (λ (q : EvaluationInput). run q next) c.in_ok-stop.ensures.program
          ∙ sym (run_done p m (Ok (Ready next)) (sym c.is_at_end.ensures ∙ c.loop-self-test.true) done)
          ∙ c.loop-self.invariant.same;
    }

pub returns-in_err-stop-clause-stops : goal.returns-in_err-stop-clause-stops
returns-in_err-stop-clause-stops g c =
    let p = c.loop-self.self.program in
    let m = c.loop-self.self.machine in
    let from = err_from_is_err_and c.from_residual.result c.from_residual.ensures.1 in
    run_refused p c.args.self.now.program m c.args.self.now.machine c.step.new.self.machine (operation_step p m) from.0 c.in_err-stop.field-0.0 c.from_residual.result
    c.loop-self.invariant.program c.loop-self.invariant.same (run_done p m (operation_step p m) (sym c.is_at_end.ensures ∙ c.loop-self-test.true) refl) from.1 from.2 c.in_err-stop.ensures.comes

pub returns-in-Some-clause-stops : goal.returns-in-Some-clause-stops
returns-in-Some-clause-stops g c =
    let p = c.loop-self.self.program in
    let m = c.loop-self.self.machine in
    let next = c.step.new.self.machine in
    let done = came_to p m next c.in_ok-stop.field-0 c.in-Some.stop c.in_ok-stop.ensures.comes c.in-Some.is in
    sym c.loop-self.invariant.same
    ∙ run_done p m (Ok (stopped_state c.in-Some.stop next)) (sym c.is_at_end.ensures ∙ c.loop-self-test.true) done
    ∙ stopped_stays (run p) c.in-Some.stop next

pub returns-in_err-value-clause-stops : goal.returns-in_err-value-clause-stops
returns-in_err-value-clause-stops g c =
    let p = c.loop-self.self.program in
    let m = c.loop-self.self.machine in
    let from = err_from_is_err_and c.from_residual-in_err-value.result c.from_residual-in_err-value.ensures.1 in
    run_refused p c.args.self.now.program m c.args.self.now.machine m (Err c.in_err-value.field-0.0) from.0 c.in_err-value.field-0.0 c.from_residual-in_err-value.result
    c.loop-self.invariant.program c.loop-self.invariant.same (run_over p m (Err c.in_err-value.field-0.0) (sym c.is_at_end.ensures ∙ c.loop-self-test.false) c.in_err-value.ensures) from.1 from.2 (inl refl)

pub returns-clause-stops : goal.returns-clause-stops
returns-clause-stops g c =
    let p = c.loop-self.self.program in
    let m = c.loop-self.self.machine in
    sym c.loop-self.invariant.same ∙ run_over p m (Ok c.in_ok-value.value) (sym c.is_at_end.ensures ∙ c.loop-self-test.false) c.in_ok-value.ensures
