use Rattle.std.proofs.Common.{ℕ, Vec, Global, sym, ap, ◌∙◌}
use Rattle.json_program.specs.Json.{address_value}
use Rattle.json_program.proofs.Laws.{kept-good, kept-bad}
use Rattle.unwind_run_document.proofs.step.addresses.Goals as goal
use Rattle.unwind_run_document.proofs.step.addresses.Goals.{in-Ok+in_ok-push-in-Ok, in-Err}

pub loop-item-preserved : goal.loop-item-preserved
loop-item-preserved c =
    elim c.match-address_in.branch [
      | in-Ok+in_ok-push-in-Ok w ↦
          kept-good address_value _ _ c.item-item.result _ _ _ _ w.in-Ok.address _ c.loop-item-test.true c.item-item.is c.loop-item.invariant
          (sym c.address_in.ensures ∙ w.in-Ok.is)
          (ap (λ (v : Vec ℕ Global). v.items) w.addresses-is ∙ w.in_ok-push-in-Ok.ensures.items) w.fault-is
      | in-Err w ↦
          kept-bad address_value _ _ c.item-item.result _ _ _ _ w.in-Err.name _ c.loop-item-test.true c.item-item.is c.loop-item.invariant
          (sym c.address_in.ensures ∙ w.in-Err.is)
          (ap (λ (v : Vec ℕ Global). v.items) w.addresses-is) (w.fault-is ∙ w.with_fault-fault.ensures)
    ]
