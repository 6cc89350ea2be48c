use Rattle.dwarf_frame_rows.proofs.RuleMaps.{each_once}
use Rattle.dwarf_frame_rows.proofs.rule_map.RegisterRuleMap.pairs.Goals as goal

pub returns-clause-once : goal.returns-clause-once
returns-clause-once g c = rw c.as_slice.ensures.value (each_once (g.Rules.ArrayLike.items c.self.inside.rules) c.self.invariant)
