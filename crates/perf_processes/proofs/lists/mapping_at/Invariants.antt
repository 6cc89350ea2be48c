use Rattle.std.proofs.Common.{◌≡◌, ◌≤◌, [], drop, length}
use Rattle.std.specs.List.{filter}
use Rattle.perf_processes.specs.Changes.{contains}
use Rattle.perf_processes.proofs.lists.mapping_at.Given as goal

abbrev pub invariant-mappings : goal.invariant-mappings
invariant-mappings l = record {
  within : l.left ≤ length l.all;
  passed : filter (contains l.pid l.address) (drop l.left l.all) ≡ [];
}

abbrev pub decreases-mappings : goal.decreases-mappings
decreases-mappings l = l.left
