use Rattle.std.proofs.Common.{◌≡◌, suc, ◌+◌, ◌-◌, Err, arith, ap, sym, ◌∙◌}
use Rattle.std.proofs.lemmas.Result.{err_from_is_err_and}
use Rattle.framehop_registers.proofs.Laws.{over_both, over_none, over_weaker}
use Rattle.framehop_expressions.specs.Evaluation.{turns}
use Rattle.framehop_expressions.specs.MachineViews.{frame_of}
use Rattle.framehop_expressions.proofs.Turns.{begins, ends, fails, goes-on}
use Rattle.framehop_expressions.proofs.evaluation.evaluate.Goals as goal

pub loop-turn-init : goal.loop-turn-init
loop-turn-init g c = record {
  callable = c.requires;
  value = over_none (λ words. begins (frame_of c.args.registers.now words) (g.R.Reader.stretch c.args.expression.0) c.args.first c.new-machine.result c.new-machine.ensures);
}

pub loop-turn-preserved : goal.loop-turn-preserved
loop-turn-preserved g c =
    let t = c.loop-turn.turn in
    let one_more : turns - t ≡ suc (turns - (t + 1)) = omega (arith, c.loop-turn-test.true) in
    record {
      callable = c.in_ok-step.ensures.callable;
      value = over_both c.loop-turn.invariant.value c.in_ok-step.ensures.steps (λ words same stepped.
          sym (goes-on (turns - t) (turns - (t + 1)) (frame_of c.args.registers.now words) c.loop-turn.machine c.step.new.self one_more (sym c.is_at_end.ensures ∙ c.if-is_at_end.false) stepped) ∙ same);
    }

pub returns-then-is_at_end-clause-value : goal.returns-then-is_at_end-clause-value
returns-then-is_at_end-clause-value g c =
    let t = c.loop-turn.turn in
    let one_more : turns - t ≡ suc (turns - (t + 1)) = omega (arith, c.loop-turn-test.true) in
    over_weaker c.loop-turn.invariant.value (λ words same.
    ends (turns - t) (turns - (t + 1)) (frame_of c.args.registers.now words) c.loop-turn.machine c.top.result one_more (sym c.is_at_end.ensures ∙ c.if-is_at_end.true) c.top.ensures ∙ same)

pub returns-in_err-step-clause-value : goal.returns-in_err-step-clause-value
returns-in_err-step-clause-value g c =
    let t = c.loop-turn.turn in
    let one_more : turns - t ≡ suc (turns - (t + 1)) = omega (arith, c.loop-turn-test.true) in
    let from = err_from_is_err_and c.from_residual.result c.from_residual.ensures.1 in
    over_both c.loop-turn.invariant.value c.in_err-step.ensures.steps (λ words same refused.
    from.1 ∙ ap (λ e. Err e) from.2
    ∙ sym (fails (turns - t) (turns - (t + 1)) (frame_of c.args.registers.now words) c.loop-turn.machine c.in_err-step.field-0.0 one_more (sym c.is_at_end.ensures ∙ c.if-is_at_end.false) refused)
    ∙ same)
