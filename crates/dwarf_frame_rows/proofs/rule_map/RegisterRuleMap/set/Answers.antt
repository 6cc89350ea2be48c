use Rattle.std.proofs.Common.{sym, ap, subst, ◌∙◌, length, ◌+◌}
use Rattle.std.specs.FinMap.{insert, len}
use Rattle.dwarf_frame_rows.specs.RuleList.{IsIncreasing}
use Rattle.dwarf_frame_rows.proofs.RuleMaps.{either_way, holds_along, holds_within, len-absent, len-found, on_ok, set_absent, set_found}
use Rattle.dwarf_frame_rows.proofs.rule_map.RegisterRuleMap.set.Goals as goal

pub invariant_of-self : goal.invariant_of-self
invariant_of-self g c =
    let items = g.Rules.ArrayLike.items c.self.inside.rules in
    let up = subst IsIncreasing (sym c.as_slice.ensures.value) c.self.invariant in
    let place = rw c.as_slice.ensures.value at (c.in-Ok.ensures up) in
    rw c.write.ensures (set_found (record { register = c.args.register; rule = c.args.rule }) c.in-Ok.index items c.self.invariant place).increasing

pub returns-in-Ok-clause-ok : goal.returns-in-Ok-clause-ok
returns-in-Ok-clause-ok g c =
    let items = g.Rules.ArrayLike.items c.self.inside.rules in
    let up = subst IsIncreasing (sym c.as_slice.ensures.value) c.self.invariant in
    let place = rw c.as_slice.ensures.value at (c.in-Ok.ensures up) in
    rw c.write.ensures (set_found (record { register = c.args.register; rule = c.args.rule }) c.in-Ok.index items c.self.invariant place).same
    ∙ ap (λ m. insert m c.args.register.0 c.args.rule) c.self.view_is

pub returns-in-Ok-clause-room : goal.returns-in-Ok-clause-room
returns-in-Ok-clause-room g c =
    let items = g.Rules.ArrayLike.items c.self.inside.rules in
    let up = subst IsIncreasing (sym c.as_slice.ensures.value) c.self.invariant in
    let place = rw c.as_slice.ensures.value at (c.in-Ok.ensures up) in
    holds_within g.Rules.ArrayLike.capacity (length items) _ c.as_slice.ensures.within
    (ap (λ m. len (insert m c.args.register.0 c.args.rule)) (sym c.self.view_is)
    ∙ len-found (record { register = c.args.register; rule = c.args.rule }) c.in-Ok.index items c.self.invariant place)

pub invariant_of-self-in-Err : goal.invariant_of-self-in-Err
invariant_of-self-in-Err g c =
    let items = g.Rules.ArrayLike.items c.self.inside.rules in
    let up = subst IsIncreasing (sym c.as_slice.ensures.value) c.self.invariant in
    let place = rw c.as_slice.ensures.value at (c.in-Err.ensures up) in
    either_way c.insert.result c.insert.ensures.ok c.insert.ensures.err
    (λ e. rw e (set_absent (record { register = c.args.register; rule = c.args.rule }) c.in-Err.index items c.self.invariant place).increasing)
    (λ e. rw e c.self.invariant)

pub returns-in-Err-clause-ok : goal.returns-in-Err-clause-ok
returns-in-Err-clause-ok g c =
    let items = g.Rules.ArrayLike.items c.self.inside.rules in
    let up = subst IsIncreasing (sym c.as_slice.ensures.value) c.self.invariant in
    let place = rw c.as_slice.ensures.value at (c.in-Err.ensures up) in
    on_ok c.insert.result c.insert.ensures.ok (λ e.
    rw e (set_absent (record { register = c.args.register; rule = c.args.rule }) c.in-Err.index items c.self.invariant place).same
    ∙ ap (λ m. insert m c.args.register.0 c.args.rule) c.self.view_is)

pub returns-in-Err-clause-room : goal.returns-in-Err-clause-room
returns-in-Err-clause-room g c =
    let items = g.Rules.ArrayLike.items c.self.inside.rules in
    let up = subst IsIncreasing (sym c.as_slice.ensures.value) c.self.invariant in
    let place = rw c.as_slice.ensures.value at (c.in-Err.ensures up) in
    holds_along g.Rules.ArrayLike.capacity (length items + 1) _ c.insert.result c.insert.ensures.room
    (ap (λ m. len (insert m c.args.register.0 c.args.rule)) (sym c.self.view_is)
    ∙ len-absent (record { register = c.args.register; rule = c.args.rule }) c.in-Err.index items c.self.invariant place)
