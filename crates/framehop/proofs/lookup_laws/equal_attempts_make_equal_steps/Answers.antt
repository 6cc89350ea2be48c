use Rattle.framehop.proofs.SameSteps.{steps-follow}
use Rattle.framehop.proofs.lookup_laws.equal_attempts_make_equal_steps.Goals as goal

pub returns : goal.returns
returns g c m = steps-follow m
