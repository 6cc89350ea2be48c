use Rattle.std.proofs.Common.{◌≤◌, subst, ℕ, Bool, List, length, Option, Some, None, IfSome}
use Rattle.framehop_rules.specs.declared.x86_64.unwind_rule.UnwindRuleX86_64.{UnwindRuleX86_64}
use Rattle.framehop_x86_ways.specs.WayRules.{IsRuleOfWay}
use Rattle.framehop_x86_ways.specs.Ways.{IsWay}
use Rattle.framehop_ways.specs.declared.executed.Bounds.{Bounds}
use Rattle.framehop_x86_ways.specs.declared.executed.Executed.{Executed}
use Rattle.framehop_x86_ways_returns.specs.WayReturns.{WayReturns}
use Rattle.framehop_code_ways.specs.Ways.{IsLedTo}
use Rattle.framehop_code_ways.proofs.Valid.{valid_way}
use Rattle.framehop_code_ways.proofs.x86_64.ArchX86_64WayUnwinding.first_way_rule.Goals as goal

led : (text : List ℕ) (bounds : Bounds) (at : ℕ) (first : Bool) (way : List Executed) (rule : Option UnwindRuleX86_64) → IsWay text bounds at way
    → length way ≤ 128 → IfSome rule (λ one. IsRuleOfWay way one) → ((first : Bool) (list : List Executed) (one : UnwindRuleX86_64) → IsRuleOfWay list one → WayReturns first list one)
    → IfSome rule (λ one. IsLedTo text bounds at first one)
led text bounds at first way None spelled few is law = tt
led text bounds at first way (Some rule) spelled few is law = record { way = way; spelled = spelled; few = few; returns = law first way rule is }

pub returns-clause-leads : goal.returns-clause-leads
returns-clause-leads c =
    let way = c.in_ok-way.way.items in
    let same = c.as_slice-2.ensures.value in
    led c.args.text.now c.args.bounds c.args.at c.args.is_first_frame way c.way_rule.result c.in_ok-way.ensures.way
    (subst (λ (xs : List Executed). length xs ≤ 128) same c.as_slice-2.ensures.fits)
    (subst (λ (xs : List Executed). IfSome c.way_rule.result (λ one. IsRuleOfWay xs one)) same c.way_rule.ensures.is) c.ways_return.ensures

pub returns-clause-valid : goal.returns-clause-valid
returns-clause-valid c =
    valid_way c.in_ok-way.way.items c.way_rule.result
    (subst (λ (xs : List Executed). IfSome c.way_rule.result (λ one. IsRuleOfWay xs one)) c.as_slice-2.ensures.value c.way_rule.ensures.is)
