use Rattle.framehop_rules.proofs.StackPointerAarch64.{later-above, later-fits}
use Rattle.framehop_rules.proofs.aarch64.laws.later_frames_raise_sp.Goals as goal

pub returns-clause-higher : goal.returns-clause-higher
returns-clause-higher c = later-above

pub returns-clause-fits : goal.returns-clause-fits
returns-clause-fits c = later-fits
