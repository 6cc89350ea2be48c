use Rattle.std.proofs.Common.{refl}
use Rattle.framehop_ranges.specs.RangeValues.{value_in}
use Rattle.framehop_ranges.proofs.ranges.Ranges.new.Goals as goal

pub returns-clause-value : goal.returns-clause-value
unfolding value_in
returns-clause-value g c address = rw c.new.ensures.items refl
