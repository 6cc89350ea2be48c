use Rattle.std.proofs.Common.{◌≤◌, length, drop}
use Rattle.dwarf_frame_rows.specs.RuleList.{IsBelow, IsIncreasing}
use Rattle.dwarf_frame_rows.proofs.rule_map.place_from_end.Given as goal

abbrev pub invariant-above : goal.invariant-above
invariant-above g l = record {
  within : l.index ≤ length l.pairs;
  below : IsIncreasing l.pairs → IsBelow l.register.0 (drop l.index l.pairs);
}

abbrev pub decreases-above : goal.decreases-above
decreases-above g l = l.index
