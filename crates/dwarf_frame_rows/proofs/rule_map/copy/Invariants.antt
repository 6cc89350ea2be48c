use Rattle.std.proofs.Common.{◌≡◌, take}
use Rattle.dwarf_frame_rows.proofs.rule_map.copy.Given as goal

abbrev pub invariant-loop-index : goal.invariant-loop-index
invariant-loop-index g l = g.Rules.ArrayLike.items l.rules ≡ take l.index l.pairs
