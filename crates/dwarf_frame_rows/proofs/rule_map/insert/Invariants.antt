use Rattle.std.proofs.Common.{◌≤◌}
use Rattle.dwarf_frame_rows.proofs.Gaps.{HasGap}
use Rattle.dwarf_frame_rows.proofs.rule_map.insert.Given as goal

abbrev pub invariant-moved : goal.invariant-moved
invariant-moved g l = record {
  index : l.index ≤ l.hole;
  gap : HasGap l.hole (g.Rules.ArrayLike.items l.rules) (g.Rules.ArrayLike.items l.fn.rules);
}

abbrev pub decreases-moved : goal.decreases-moved
decreases-moved g l = l.hole
