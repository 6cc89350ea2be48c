use Rattle.std.proofs.Common.{ap, ◌∙◌}
use Rattle.dwarf_frame_rows.specs.RuleMap.{map_of}
use Rattle.dwarf_frame_rows.specs.SameRules.{same_rules}
use Rattle.dwarf_frame_rows.proofs.SameMaps.{pair_by_pair}
use Rattle.dwarf_frame_rows.proofs.rule_map.RegisterRuleMapPartialEq.eq.Goals as goal

pub returns : goal.returns
returns g c =
    let eq = g.V.PartialEq.eq in
    let these = g.Rules.ArrayLike.items c.self.inside.rules in
    let those = g.Rules.ArrayLike.items c.other.inside.rules in
    (rw (c.as_slice.ensures.value, c.as_slice-2.ensures.value) at c.eq.ensures)
    ∙ pair_by_pair eq these those c.self.invariant c.other.invariant
    ∙ ap (λ m. same_rules eq m (map_of those)) c.self.view_is ∙ ap (λ m. same_rules eq c.args.self.now m) c.other.view_is
