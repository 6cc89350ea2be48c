use Rattle.std.proofs.Common.{◌≡◌, ◌≤◌, take}
use Rattle.function_index.specs.Functions.{last_at}
use Rattle.function_index.proofs.functions.last_among.Given as goal

abbrev pub invariant-functions : goal.invariant-functions
invariant-functions l = record {
  within : l.left ≤ l.count;
  same : last_at l.address (take l.left l.functions) ≡ last_at l.address (take l.count l.functions);
}

abbrev pub decreases-functions : goal.decreases-functions
decreases-functions l = l.left
