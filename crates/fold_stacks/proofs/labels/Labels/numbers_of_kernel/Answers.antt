use Rattle.std.proofs.Common.{take}
use Rattle.fold_stacks.specs.FrameNames.{NamesKernelFrame}
use Rattle.fold_stacks.proofs.LaterNames.{kernel-frames-later, zip-more}
use Rattle.fold_stacks.proofs.NamedFrames.{labels-twice}
use Rattle.fold_stacks.proofs.labels.Labels.numbers_of_kernel.Goals as goal

pub loop-address-preserved : goal.loop-address-preserved
loop-address-preserved g c = record {
  named = rw c.in_ok-push.ensures.items
      (zip-more (NamesKernelFrame c.kernel_frame_number.new.self c.args.addresses) c.args.frames.now c.loop-address.numbers.items c.loop-address.address-index 0
      c.in_ok-number.number c.loop-address-test.true
      (kernel-frames-later c.loop-address.self c.kernel_frame_number.new.self c.kernel_frame_number.ensures.kept c.args.addresses
      (take c.loop-address.address-index c.args.frames.now) c.loop-address.numbers.items c.loop-address.invariant.named)
      c.in_ok-number.ensures.number);
  kept = labels-twice c.args.self.now c.loop-address.self c.kernel_frame_number.new.self c.loop-address.invariant.kept c.kernel_frame_number.ensures.kept;
}
