use Rattle.framehop_unwinder.proofs.Slots.{new_fits, below_more, empty_fits, empty_below}
use Rattle.framehop_unwinder.proofs.laws.fits_if_new.Goals as goal

pub returns : goal.returns
returns g c = record { fits = new_fits; more = below_more; empty = empty_fits; empty_below = empty_below }
