use Rattle.std.proofs.Common.{◌≡◌, ◌≤◌, drop, length}
use Rattle.sample_stacks.specs.Merging.{ranges_of}
use Rattle.sample_stacks.proofs.ranges.merged_ranges.Given as goal

abbrev pub invariant-mappings : goal.invariant-mappings
invariant-mappings l = record {
  within : l.left ≤ length l.mappings;
  found : l.found.items ≡ ranges_of (drop l.left l.mappings);
}

abbrev pub decreases-mappings : goal.decreases-mappings
decreases-mappings l = l.left
