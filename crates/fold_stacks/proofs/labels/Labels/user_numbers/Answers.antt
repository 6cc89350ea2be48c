use Rattle.std.proofs.Common.{None, take}
use Rattle.fold_stacks.specs.FrameNames.{NamesFrame}
use Rattle.fold_stacks.proofs.LaterNames.{frames-later, zip-more}
use Rattle.fold_stacks.proofs.NamedFrames.{labels-twice}
use Rattle.fold_stacks.proofs.labels.Labels.user_numbers.Goals as goal

pub loop-frame-preserved : goal.loop-frame-preserved
loop-frame-preserved g c = record {
  named = rw c.in_ok-push.ensures.items
      (zip-more (NamesFrame c.user_number.new.self c.args.addresses) c.args.frames.now c.loop-frame.numbers.items c.loop-frame.frame-index
      (record { address = 0; lookup = 0; place = None }) c.in_ok-number.number c.loop-frame-test.true
      (frames-later c.loop-frame.self c.user_number.new.self c.user_number.ensures.kept c.args.addresses
      (take c.loop-frame.frame-index c.args.frames.now) c.loop-frame.numbers.items c.loop-frame.invariant.named)
      c.in_ok-number.ensures.number);
  kept = labels-twice c.args.self.now c.loop-frame.self c.user_number.new.self c.loop-frame.invariant.kept c.user_number.ensures.kept;
}
