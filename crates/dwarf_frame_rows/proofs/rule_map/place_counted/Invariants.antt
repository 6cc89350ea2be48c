use Rattle.std.proofs.Common.{◌+◌, ◌≤◌, length, take, drop}
use Rattle.dwarf_frame_rows.specs.RuleList.{IsAbove, IsBelow, IsIncreasing}
use Rattle.dwarf_frame_rows.proofs.Places.{IsHalved}
use Rattle.dwarf_frame_rows.proofs.rule_map.place_counted.Given as goal

abbrev pub invariant-halves : goal.invariant-halves
invariant-halves g l = record {
  within : l.low + l.len ≤ length l.pairs;
  above : IsIncreasing l.pairs → IsAbove l.register.0 (take l.low l.pairs);
  below : IsIncreasing l.pairs → IsBelow l.register.0 (drop (l.low + l.len) l.pairs);
  halved : IsHalved (length l.pairs) l.fn.steps l.steps l.len;
}

abbrev pub decreases-halves : goal.decreases-halves
decreases-halves g l = l.len
