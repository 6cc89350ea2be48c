use Rattle.std.proofs.Common.{ℕ, Option, None, ◌<◌, ◌∙◌, ap, arith, below_more, length}
use Rattle.std.proofs.lemmas.List.{get_or-set_same, get_or-set_other, length-set}
use Rattle.std.proofs.lemmas.List.FromFn.{fill_by_all}
use Rattle.std.specs.Prelude.{option_and_then, slice_get}
use Rattle.core_files.specs.MemoryViews.{word_of}
use Rattle.backtrace_walks.specs.Signals.{word_above}
use Rattle.framehop_whole_steps.specs.Registers.{registers}
use Rattle.backtrace_walks.proofs.saved.saved_by.Goals as goal

pub loop-number-preserved : goal.loop-number-preserved
loop-number-preserved c =
    let l = c.loop-number in
    let word = c.word_at_distance.result in
    let within : l.number < length l.saved = omega arith in
    record {
      size = length-set l.saved l.number word ∙ l.invariant.size;
      values = below_more _ _
          (λ k below. get_or-set_other l.saved l.number k word None (λ same. absurd (omega arith)) ∙ l.invariant.values k below)
          (get_or-set_same l.saved l.number word None within ∙ c.word_at_distance.ensures
          ∙ ap (λ (d : Option ℕ). option_and_then (word_above (word_of c.args.memory.now) c.args.sp) d) c.value_at.ensures);
    }

pub returns : goal.returns
returns c =
    fill_by_all (λ number. option_and_then (word_above (word_of c.args.memory.now) c.args.sp) (slice_get c.args.distances.now number))
    c.loop-number.saved registers None c.loop-number.invariant.size (λ k below. c.loop-number.invariant.values k (omega arith))
