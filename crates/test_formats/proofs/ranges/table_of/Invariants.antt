use Rattle.framehop_ranges.specs.Ranges.{Sound}
use Rattle.test_formats.proofs.ranges.table_of.Given as goal

abbrev pub invariant-ends : goal.invariant-ends
invariant-ends l = Sound l.ranges
