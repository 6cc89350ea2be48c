use Rattle.std.proofs.Common.{◌≡◌, length, sym, ap, subst, ◌∙◌, arith}
use Rattle.std.specs.FinMap.{get, len}
use Rattle.dwarf_frame_rows.specs.RuleList.{IsIncreasing}
use Rattle.dwarf_frame_rows.specs.RuleMap.{rule_in}
use Rattle.dwarf_frame_rows.proofs.RuleMaps.{get-map_of, length-increasing, none-at, rule_at-place}
use Rattle.dwarf_frame_rows.proofs.rule_map.RegisterRuleMap.get_counted.Goals as goal

pub returns-clause-rule : goal.returns-clause-rule
returns-clause-rule g c =
    let up = subst IsIncreasing (sym c.as_slice-pairs.ensures.value) c.self.invariant in
    c.rule_at.ensures ∙ rule_at-place c.args.register.0 c.place_counted.result c.as_slice-pairs.result.now up (c.place_counted.ensures.place up)
    ∙ ap (rule_in c.args.register.0) c.as_slice-pairs.ensures.value
    ∙ sym (get-map_of (g.Rules.ArrayLike.items c.self.inside.rules) c.args.register.0)
    ∙ ap (λ m. get m c.args.register.0) c.self.view_is

pub returns-clause-few : goal.returns-clause-few
returns-clause-few g c =
    let all : length c.as_slice-pairs.result.now ≡ len c.args.self.now =
    ap length c.as_slice-pairs.ensures.value ∙ sym (length-increasing (g.Rules.ArrayLike.items c.self.inside.rules) c.self.invariant) ∙ ap len c.self.view_is in
    λ k h. c.place_counted.ensures.few k (omega (arith, all, h))

pub returns-clause-some : goal.returns-clause-some
returns-clause-some g c =
    let all : length c.as_slice-pairs.result.now ≡ len c.args.self.now =
    ap length c.as_slice-pairs.ensures.value ∙ sym (length-increasing (g.Rules.ArrayLike.items c.self.inside.rules) c.self.invariant) ∙ ap len c.self.view_is in
    λ some. c.place_counted.ensures.some (omega (arith, all, some))

pub returns-clause-enough : goal.returns-clause-enough
returns-clause-enough g c =
    let up = subst IsIncreasing (sym c.as_slice-pairs.ensures.value) c.self.invariant in
    let all : length c.as_slice-pairs.result.now ≡ len c.args.self.now =
    ap length c.as_slice-pairs.ensures.value ∙ sym (length-increasing (g.Rules.ArrayLike.items c.self.inside.rules) c.self.invariant) ∙ ap len c.self.view_is in
    λ none k h.
    c.place_counted.ensures.enough
    (none-at c.args.register.0 c.place_counted.result c.as_slice-pairs.result.now (c.place_counted.ensures.place up) (rw (← c.rule_at.ensures) none))
    k (omega (arith, all, h))
