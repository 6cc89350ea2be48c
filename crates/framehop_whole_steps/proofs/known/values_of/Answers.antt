use Rattle.std.proofs.Common.{None, ◌<◌, ◌∙◌, arith, below_more, length}
use Rattle.std.proofs.lemmas.List.{get_or-set_same, get_or-set_other, length-set}
use Rattle.framehop_expressions.specs.Registers.{known}
use Rattle.framehop_whole_steps.proofs.Knowns.{all-values}
use Rattle.framehop_whole_steps.proofs.known.values_of.Goals as goal

pub loop-number-preserved : goal.loop-number-preserved
loop-number-preserved c =
    let l = c.loop-number in
    let within : l.number < length l.values = omega arith in
    record {
      size = length-set l.values l.number c.get.result ∙ l.invariant.size;
      values = below_more _ _
          (λ k below. get_or-set_other l.values l.number k c.get.result None (λ same. absurd (omega arith)) ∙ l.invariant.values k below)
          (get_or-set_same l.values l.number c.get.result None within ∙ c.get.ensures);
    }

pub returns : goal.returns
returns c = all-values (known c.args.registers.now) c.loop-number.values c.loop-number.invariant.size (λ k below. c.loop-number.invariant.values k (omega arith))
