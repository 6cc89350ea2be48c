use Rattle.std.proofs.Common.{◌≡◌, ◌≤◌, subst, sym, refl, ℕ, Bool, true, false, List, length, Option, Some, None, IfSome}
use Rattle.std.specs.Prelude.{◌&&◌, not, if◌then◌else◌}
use Rattle.framehop_rules.specs.declared.aarch64.unwind_rule.UnwindRuleAarch64.{UnwindRuleAarch64}
use Rattle.framehop_ways.specs.Values.{IsRuleOfWay}
use Rattle.framehop_ways.specs.Ways.{IsWay}
use Rattle.framehop_ways.specs.declared.executed.Bounds.{Bounds}
use Rattle.framehop_ways.specs.declared.executed.Executed.{Executed}
use Rattle.framehop_ways_returns.specs.WayReturns.{WayReturns}
use Rattle.framehop_code_ways.specs.FirstRulesAarch64.{if_known, keeps_lr}
use Rattle.framehop_code_ways.specs.WaysAarch64.{IsLedTo}
use Rattle.framehop_code_ways.proofs.aarch64.ArchAarch64WayUnwinding.first_way_rule.Goals as goal

led : (text : List ℕ) (bounds : Bounds) (at : ℕ) (first : Bool) (way : List Executed) (rule : UnwindRuleAarch64) → IsWay text bounds at way
    → length way ≤ 128 → IsRuleOfWay way rule → ((first : Bool) (list : List Executed) (one : UnwindRuleAarch64) → IsRuleOfWay list one → WayReturns first list one)
    → IfSome (if_known first rule) (λ one. IsLedTo text bounds at first one)
led text bounds at first way rule spelled few is law = by first (keeps_lr rule) refl
  where
    by : (first kept : Bool) → keeps_lr rule ≡ kept → IfSome (if not first && kept then None else Some rule) (λ one. IsLedTo text bounds at first one)
    by true kept same = record { way = way; spelled = spelled; few = few; returns = law true way rule is; loaded = λ later. cc }
    by false true same = tt
    by false false same = record { way = way; spelled = spelled; few = few; returns = law false way rule is; loaded = λ later. same }

pub returns-clause-leads : goal.returns-clause-leads
returns-clause-leads c =
    let way = c.in_ok-way.way.items in
    let rule = c.in_ok-rule.rule in
    let same = c.as_slice-2.ensures.value in
    subst (λ (r : Option UnwindRuleAarch64). IfSome r (λ one. IsLedTo c.args.text.now c.args.bounds c.args.at c.args.is_first_frame one)) (sym c.if_known.ensures)
    (led c.args.text.now c.args.bounds c.args.at c.args.is_first_frame way rule c.in_ok-way.ensures.way
    (subst (λ (xs : List Executed). length xs ≤ 128) same c.as_slice-2.ensures.fits)
    (subst (λ (xs : List Executed). IsRuleOfWay xs rule) same c.in_ok-rule.ensures.is) c.ways_return.ensures)
