use Rattle.std.proofs.Common.{◌≡◌, ◌++◌, drop}
use Rattle.sample_stacks.specs.Known.{ranges_seen}
use Rattle.sample_stacks.proofs.known.with_known_code.Given as goal

-- what was found, with what is left
abbrev pub invariant-loop-range : goal.invariant-loop-range
invariant-loop-range l = ranges_seen l.found.items ++ drop l.range-index l.ranges ≡ l.ranges
