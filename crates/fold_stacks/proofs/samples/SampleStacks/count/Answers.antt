use Rattle.std.proofs.Common.{◌≡◌, ◌∙◌, sym, ap, subst}
use Rattle.fold_stacks.specs.CountedStacks.{CountedStacks}
use Rattle.fold_stacks.specs.FrameNames.{HasName, LabelState}
use Rattle.fold_stacks.specs.FrameTexts.{process_text}
use Rattle.fold_stacks.specs.StackNames.{shown_thread}
use Rattle.fold_stacks.specs.declared.order.StackParts.{StackParts}
use Rattle.fold_stacks.proofs.NamedStacks.{parts-named}
use Rattle.fold_stacks.proofs.samples.SampleStacks.count.Goals as goal

pub returns-clause-names : goal.returns-clause-names
returns-clause-names g c =
    let parts : StackParts = record { process = c.in_ok-process.process; end = c.in_ok-end_number.field-0; user = c.as_slice-2.result; kernel = c.as_slice-3.result } in
    let same : c.self-2.inside.labels ≡ c.process_number.new.self = ap (λ (stacks : CountedStacks). stacks.labels) (c.self-2.view_is ∙ c.user_frames.ensures) in
    let process = subst (λ (state : LabelState). HasName state.names c.in_ok-process.process (process_text c.args.comm.now (shown_thread c.args.options.now c.args.thread)))
    (sym same) c.in_ok-process.ensures.number in (
      c.as_slice.result.now,
      c.in_ok-frames.end,
      parts,
      parts-named c.args.options.now c.args.comm.now c.args.thread c.as_slice.result.now c.args.sample.now.call_chain c.in_ok-frames.end parts
          c.self-2.inside.labels c.user_numbers.new.self c.kernel_numbers.new.self c.end_number.new.self
          c.in_ok-user.ensures.kept c.in_ok-kernel.ensures.kept c.end_number.ensures.kept process
          (rw c.as_slice-2.ensures.value c.in_ok-user.ensures.numbers) (rw c.as_slice-3.ensures.value c.in_ok-kernel.ensures.numbers) c.in_ok-end_number.ensures.number,
      c.in_ok-stack.ensures,
    )
