use Rattle.std.proofs.Common.{◌+◌, ◌<◌, length, slice_set, take, refl, sym, ap, ◌∙◌, arith}
use Rattle.std.proofs.lemmas.List.{length-set, take_more_set}
use Rattle.serde_json.specs.View.{view}
use Rattle.json_program.specs.Elements.{so_far}
use Rattle.unwind_run_document.proofs.Others.{at-end, before-first, one-good, one-bad}
use Rattle.unwind_run_document.proofs.registers.others_in.Goals as goal
use Rattle.unwind_run_document.proofs.registers.others_in.Goals.{in-Ok, in-Err}

pub loop-number-init : goal.loop-number-init
loop-number-init c = record { has_all = refl; so_far_same = before-first c.args.arch (view c.args.object.now) 35 }

pub loop-number-preserved : goal.loop-number-preserved
loop-number-preserved c =
    let old = c.loop-number.others in
    let n = c.loop-number.number in
    let within : n < length old = omega (arith, c.loop-number.invariant.has_all, c.loop-number-test.true) in
    elim c.match-value_in.branch [
      | in-Ok w ↦
          let set_at = ap (λ k. slice_set old k w.in-Ok.value) w.from.ensures in
          let written = w.others-is ∙ set_at in
          record {
            has_all = ap length written ∙ length-set old n w.in-Ok.value ∙ c.loop-number.invariant.has_all;
            so_far_same =
                one-good _ _ _ 35 _ _ _ _ _ _ c.loop-number-test.true c.loop-number.invariant.so_far_same (sym c.value_in.ensures ∙ w.in-Ok.is)
                (ap (take (n + 1)) written ∙ take_more_set old n w.in-Ok.value within) w.fault-is;
          }
      | in-Err w ↦ record {
        has_all = ap length w.others-is ∙ c.loop-number.invariant.has_all;
        so_far_same =
            one-bad _ _ _ 35 _ _ _ _ _ _ c.loop-number-test.true c.loop-number.invariant.so_far_same (sym c.value_in.ensures ∙ w.in-Err.is)
            (w.fault-is ∙ w.with_fault-fault.ensures);
      }
    ]

pub returns-in-None : goal.returns-in-None
returns-in-None c =
    sym
    (at-end _ _ _ 35 _ _ _ (omega (arith, c.loop-number-test.false, c.loop-number.auto.number-end)) c.loop-number.invariant.has_all c.loop-number.invariant.so_far_same
    ∙ ap (λ fault. so_far fault c.loop-number.others) c.in-None.is)

pub returns-in-Some : goal.returns-in-Some
returns-in-Some c =
    sym
    (at-end _ _ _ 35 _ _ _ (omega (arith, c.loop-number-test.false, c.loop-number.auto.number-end)) c.loop-number.invariant.has_all c.loop-number.invariant.so_far_same
    ∙ ap (λ fault. so_far fault c.loop-number.others) c.in-Some.is)
