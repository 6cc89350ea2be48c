use Rattle.std.proofs.Common.{sym, ap, subst, ◌∙◌}
use Rattle.std.specs.FinMap.{get}
use Rattle.dwarf_frame_rows.specs.RuleList.{IsIncreasing}
use Rattle.dwarf_frame_rows.specs.RuleMap.{rule_in}
use Rattle.dwarf_frame_rows.proofs.RuleMaps.{get-map_of, rule_at-place}
use Rattle.dwarf_frame_rows.proofs.rule_map.RegisterRuleMap.get.Goals as goal

pub returns : goal.returns
returns g c =
    let up = subst IsIncreasing (sym c.as_slice-pairs.ensures.value) c.self.invariant in
    c.rule_at.ensures ∙ rule_at-place c.args.register.0 c.place_by_halves.result c.as_slice-pairs.result.now up (c.place_by_halves.ensures up)
    ∙ ap (rule_in c.args.register.0) c.as_slice-pairs.ensures.value
    ∙ sym (get-map_of (g.Rules.ArrayLike.items c.self.inside.rules) c.args.register.0)
    ∙ ap (λ m. get m c.args.register.0) c.self.view_is
