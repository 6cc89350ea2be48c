use Rattle.framehop_analysis.proofs.FrameSetup.{sets_is}
use Rattle.framehop_analysis.proofs.aarch64.instruction_analysis.fields.sets_frame_pointer.Goals as goal

pub returns : goal.returns
returns c = sets_is c.args.word c.immediate.result c.is_some.result c.is_some.ensures c.immediate.ensures.bytes c.immediate.ensures.none
