use Rattle.std.proofs.Common.{◌∙◌}
use Rattle.perf_files.specs.SampleViews.{sample_seen}
use Rattle.fold_stacks.proofs.Weighing.{passed-over, selected}
use Rattle.fold_stacks.proofs.folding.Folding.take_sample.Goals as goal

pub returns-then-not-is_selected-clause-weight : goal.returns-then-not-is_selected-clause-weight
returns-then-not-is_selected-clause-weight g c =
    passed-over c.args.options.now c.args.self.now c.args.event.now c.args.attributes.now c.args.record.now.payload.now (sample_seen c.in_ok-sample.sample)
    c.unwrap_or-thread.result c.as_slice.result.now c.is_selected.result c.in_ok-sample.ensures c.unwrap_or-thread.ensures
    (rw (← c.self.view_is) (c.as_slice.ensures.value ∙ c.in_ok-comm.ensures)) c.is_selected.ensures c.if-not-is_selected.true

pub returns-clause-weight : goal.returns-clause-weight
returns-clause-weight g c =
    selected c.args.options.now c.args.self.now c.args.event.now c.args.attributes.now c.args.record.now.payload.now (sample_seen c.in_ok-sample.sample)
    c.unwrap_or-thread.result c.as_slice.result.now c.is_selected.result c.weight_of-weight.result c.in_ok-sample.ensures c.unwrap_or-thread.ensures
    (rw (← c.self.view_is) (c.as_slice.ensures.value ∙ c.in_ok-comm.ensures)) c.is_selected.ensures c.if-not-is_selected.false c.weight_of-weight.ensures
