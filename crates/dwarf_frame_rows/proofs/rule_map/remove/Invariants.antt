use Rattle.std.proofs.Common.{◌≡◌, ◌≤◌, ◌-◌, suc, length}
use Rattle.std.specs.List as list
use Rattle.dwarf_frame_rows.proofs.Gaps.{HasGap}
use Rattle.dwarf_frame_rows.proofs.rule_map.remove.Given as goal

abbrev pub invariant-moved : goal.invariant-moved
invariant-moved g l = record {
  last : l.hole ≤ l.last;
  len : length (g.Rules.ArrayLike.items l.rules) ≡ suc l.last;
  gap : HasGap l.hole (g.Rules.ArrayLike.items l.rules) (list.remove (g.Rules.ArrayLike.items l.fn.rules) l.index);
}

abbrev pub decreases-moved : goal.decreases-moved
decreases-moved g l = l.last - l.hole
