use Rattle.std.proofs.Common.{ap, sym, ◌∙◌}
use Rattle.framehop_rules.specs.CacheViews.{finding_shown, layout_shown, sets_shown}
use Rattle.framehop_rules.specs.Slots.{key_of}
use Rattle.framehop_rules.proofs.CacheSlots.{found-valid}
use Rattle.framehop_rules.proofs.rule_cache.RuleCache.lookup.Goals as goal

-- a rule that is found can be executed
pub returns-in-Hits-clause-valid : goal.returns-in-Hits-clause-valid
returns-in-Hits-clause-valid g c =
    let slots = c.self.inside.slots in
    found-valid g.R.UnwindRule.is_valid (layout_shown slots) (sets_shown slots) (key_of c.args.address c.args.is_first_frame c.args.modules_generation) c.in-Hits.unwind_rule c.self.invariant.1
    (sym c.find-finding.ensures ∙ ap finding_shown c.in-Hits.is)
