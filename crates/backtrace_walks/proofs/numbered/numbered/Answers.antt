use Rattle.std.proofs.Common.{None, ◌<◌, ◌∙◌, arith, below_more, length}
use Rattle.std.proofs.lemmas.List.{get_or-set_same, get_or-set_other, length-set}
use Rattle.std.proofs.lemmas.List.FromFn.{fill_by_all}
use Rattle.std.specs.Prelude.{slice_get}
use Rattle.framehop_whole_steps.specs.Registers.{registers}
use Rattle.backtrace_walks.proofs.numbered.numbered.Goals as goal

pub loop-number-preserved : goal.loop-number-preserved
loop-number-preserved c =
    let l = c.loop-number in
    let within : l.number < length l.known = omega arith in
    record {
      size = length-set l.known l.number c.value_at.result ∙ l.invariant.size;
      values = below_more _ _
          (λ k below. get_or-set_other l.known l.number k c.value_at.result None (λ same. absurd (omega arith)) ∙ l.invariant.values k below)
          (get_or-set_same l.known l.number c.value_at.result None within ∙ c.value_at.ensures);
    }

pub returns : goal.returns
returns c = fill_by_all (slice_get c.args.values.now) c.loop-number.known registers None c.loop-number.invariant.size (λ k below. c.loop-number.invariant.values k (omega arith))
