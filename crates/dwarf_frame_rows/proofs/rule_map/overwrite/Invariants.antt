use Rattle.std.proofs.Common.{◌≡◌, length, take}
use Rattle.dwarf_frame_rows.proofs.rule_map.overwrite.Given as goal

abbrev pub invariant-loop-index : goal.invariant-loop-index
invariant-loop-index g l = record {
  len : length (g.Rules.ArrayLike.items l.rules) ≡ length (g.Rules.ArrayLike.items l.fn.rules);
  written : take l.index (g.Rules.ArrayLike.items l.rules) ≡ take l.index l.pairs;
}
