use Rattle.std.proofs.Common.{sym, ap, ◌∙◌, length}
use Rattle.std.specs.FinMap.{len}
use Rattle.dwarf_frame_rows.proofs.RuleMaps.{length-increasing}
use Rattle.dwarf_frame_rows.proofs.rule_map.RegisterRuleMap.len.Goals as goal

pub returns : goal.returns
returns g c =
    ap length c.as_slice.ensures.value
    ∙ sym (length-increasing (g.Rules.ArrayLike.items c.self.inside.rules) c.self.invariant)
    ∙ ap len c.self.view_is
