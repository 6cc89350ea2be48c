use Rattle.std.proofs.Common.{sym, ap, subst, ◌∙◌}
use Rattle.std.specs.FinMap.{remove}
use Rattle.dwarf_frame_rows.specs.RuleList.{IsIncreasing}
use Rattle.dwarf_frame_rows.proofs.RuleMaps.{removed_absent, removed_found}
use Rattle.dwarf_frame_rows.proofs.rule_map.RegisterRuleMap.remove.Goals as goal

pub invariant_of-self : goal.invariant_of-self
invariant_of-self g c =
    let items = g.Rules.ArrayLike.items c.self.inside.rules in
    let up = subst IsIncreasing (sym c.as_slice.ensures.value) c.self.invariant in
    let place = rw c.as_slice.ensures.value at (c.in-Ok.ensures up) in
    rw c.remove.ensures (removed_found c.args.register.0 c.in-Ok.index items c.self.invariant place).increasing

pub returns-in-Ok : goal.returns-in-Ok
returns-in-Ok g c =
    let items = g.Rules.ArrayLike.items c.self.inside.rules in
    let up = subst IsIncreasing (sym c.as_slice.ensures.value) c.self.invariant in
    let place = rw c.as_slice.ensures.value at (c.in-Ok.ensures up) in
    rw c.remove.ensures (removed_found c.args.register.0 c.in-Ok.index items c.self.invariant place).same
    ∙ ap (λ m. remove m c.args.register.0) c.self.view_is

pub returns-in_default : goal.returns-in_default
returns-in_default g c =
    let items = g.Rules.ArrayLike.items c.self.inside.rules in
    let up = subst IsIncreasing (sym c.as_slice.ensures.value) c.self.invariant in
    let place = rw c.as_slice.ensures.value at (c.in_default.ensures up) in
    rw (← c.self.view_is) (removed_absent c.args.register.0 c.in_default.field-0 items c.self.invariant place)
