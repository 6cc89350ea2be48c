use Rattle.framehop_unwinder.proofs.Slots.{fits_after, below_after}
use Rattle.framehop_unwinder.proofs.laws.fits_after_step.Goals as goal

pub returns-clause-fits : goal.returns-clause-fits
returns-clause-fits g c = λ wanted mine theirs generation key cache. fits_after wanted mine theirs generation key cache.layout cache.sets

pub returns-clause-below : goal.returns-clause-below
returns-clause-below g c = λ wanted mine next key cache. below_after wanted mine key next cache.layout cache.sets
