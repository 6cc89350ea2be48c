use Rattle.std.proofs.Common.{length}
use Rattle.cases_unwinding.specs.Little.{little}
use Rattle.cases_unwinding.proofs.Sums.{Tallied}
use Rattle.cases_unwinding.proofs.parts.read_core.numbers.tally_numbers.Given as goal

abbrev pub invariant-numbers : goal.invariant-numbers
invariant-numbers l = Tallied (little l.fn.reader) (little l.reader) l.tally.count l.tally.sum

abbrev pub decreases-numbers : goal.decreases-numbers
decreases-numbers l = length l.reader.slice.now
