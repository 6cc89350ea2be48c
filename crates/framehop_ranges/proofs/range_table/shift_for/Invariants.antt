use Rattle.std.proofs.Common.{◌≤◌, ◌-◌}
use Rattle.framehop_ranges.proofs.range_table.shift_for.Given as goal

abbrev pub invariant-shifts : goal.invariant-shifts
invariant-shifts g l = record { bound : l.shift ≤ 31 }

abbrev pub decreases-shifts : goal.decreases-shifts
decreases-shifts g l = 31 - l.shift
