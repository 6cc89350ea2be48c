use Rattle.std.proofs.Common.{◌<◌, ◌≤◌, length, ◌-◌}
use Rattle.std.specs.List.{AllWithin}
use Rattle.framehop_ranges.proofs.blocks.passed_from.Given as goal

abbrev pub invariant-starts : goal.invariant-starts
invariant-starts g l = record {
  within : l.passed ≤ length l.entries;
  below : AllWithin (λ entry. entry.start < l.fn.limit) l.entries 0 l.passed;
}

abbrev pub decreases-starts : goal.decreases-starts
decreases-starts g l = length l.entries - l.passed
