use Rattle.std.proofs.Common.{◌≡◌, ◌++◌, drop}
use Rattle.sample_stacks.specs.Merging.{end_of, filled, with_mapping}
use Rattle.sample_stacks.proofs.ranges.with_mapping.Given as goal

-- what was found, with what is left
abbrev pub invariant-loop-range : goal.invariant-loop-range
invariant-loop-range l =
    l.found.items ++ filled l.mapping (end_of l.mapping) l.start (drop l.range-index l.ranges) ≡ with_mapping l.mapping l.ranges
