use Rattle.std.proofs.Common.{◌≢◌, ◌<◌, ◌∙◌, arith, below_more}
use Rattle.framehop_registers.proofs.Laws.{over_both}
use Rattle.framehop_expressions.specs.Architectures.{register_count}
use Rattle.framehop_whole_rows.proofs.place.RowPlace.registers_after.Goals as goal

pub loop-number-preserved : goal.loop-number-preserved
loop-number-preserved g c =
    let l = c.loop-number in
    let in_range : l.number < register_count l.caller.architecture = grind arith in
    record {
      callable = c.caller_register-value.ensures.callable;
      architecture = c.set.ensures.architecture ∙ l.invariant.architecture;
      mask = c.set.ensures.mask ∙ l.invariant.mask;
      values = over_both l.invariant.values c.caller_register-value.ensures.value (λ words before one.
          below_more _ _ (λ k below. let ne : k ≢ l.number = omega arith in c.set.ensures.others k ne ∙ before k below) (c.set.ensures.set in_range ∙ one));
    }
