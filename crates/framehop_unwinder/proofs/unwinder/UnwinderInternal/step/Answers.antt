use Rattle.std.specs.Prelude.{if◌then◌else◌}
use Rattle.std.proofs.Common.{rules, ◌≡◌, ◌∙◌, ap, sym, subst, true, false}
use Rattle.framehop_rules.specs.Outcome.{IsStep}
use Rattle.framehop_rules.specs.Slots.{Key, key_of}
use Rattle.framehop_unwinder.specs.CacheViews.{rules_of}
use Rattle.framehop_unwinder.specs.RulesKept.{rule_kept, with_any}
use Rattle.framehop_unwinder.specs.Trials.{wants_memory}
use Rattle.framehop_unwinder.proofs.HitReads.{hit-reads, miss-reads}
use Rattle.framehop_unwinder.proofs.Slots.{hit_fits}
use Rattle.framehop_unwinder.proofs.Steps.{kept-judged, hit-found, miss-keeps, rules_want_none}
use Rattle.framehop_unwinder.proofs.unwinder.UnwinderInternal.step.Goals as goal

-- the rule that a fitting cache has means what is judged
pub returns-in-Hit-clause-step : goal.returns-in-Hit-clause-step
returns-in-Hit-clause-step g c =
    let m = g.A.ModuleUnwinding.meanings in
    let modules = c.args.self.now.modules in
    let key : Key = key_of c.args.address c.args.is_first_frame c.args.self.now.generation in
    let layout = (rules_of c.args.cache.now).layout in
    let sets = (rules_of c.args.cache.now).sets in
    let found = hit-found (rule_kept m modules) key layout sets c.in-Hit.rule (rw c.generation.ensures at c.in-Hit.ensures.found) in
    record {
      over = record {
        said = λ words answers fits wanted.
            subst (IsStep c.exec.result c.args.regs.now c.exec.new.regs)
            (sym (kept-judged m c.args.is_first_frame c.args.regs.now words modules c.args.address c.args.self.now.generation c.in-Hit.rule
            (hit_fits (rule_kept m modules) key layout sets c.in-Hit.rule found fits)))
            (subst (λ meaning. IsStep c.exec.result c.args.regs.now c.exec.new.regs (meaning c.in-Hit.rule c.args.is_first_frame c.args.regs.now words))
            (sym g.met.A.ModuleUnwinding.meaning_is) (c.exec.ensures.step.said words answers));
        still = c.exec.ensures.step.still;
      };
      -- and no word is read but its own
      order = hit-reads _ _ _ g.A.UnwindRule.UnwindRule.reads c.args.is_first_frame c.args.regs.now _ c.in-Hit.rule found c.exec.ensures.order;
    }

-- what the modules say is judged
pub returns-in-Miss-clause-step : goal.returns-in-Miss-clause-step
returns-in-Miss-clause-step g c =
    let key : Key = key_of c.args.address c.args.is_first_frame c.args.self.now.generation in
    let done = c.step_by_module.ensures.step in
    record {
      over = record { said = λ words answers fits wanted. done.said words answers wanted; still = done.still };
      order = miss-reads _ _ _ g.A.UnwindRule.UnwindRule.reads c.args.is_first_frame c.args.regs.now key _ c.in-Miss.handle (rw c.generation.ensures at c.in-Miss.ensures.found);
    }

-- and what they have kept is
pub returns-in-Miss-clause-cache : goal.returns-in-Miss-clause-cache
returns-in-Miss-clause-cache g c =
    let m = g.A.ModuleUnwinding.meanings in
    let key : Key = key_of c.args.address c.args.is_first_frame c.args.self.now.generation in
    let old = rules_of c.args.cache.now in
    let kept = rule_kept m c.args.self.now.modules in
    let w = wants_memory c.step_by_module.result in
    let done = c.step_by_module.ensures.cache in
    record {
      layout = search rules;
      sets = done.sets
          ∙ ap (λ layout. if w then c.lookup.new.self.sets else with_any layout c.lookup.new.self.sets c.in-Miss.handle (kept key)) c.lookup.ensures.layout
          ∙ ap (λ sets. if w then sets else with_any old.layout sets c.in-Miss.handle (kept key)) c.lookup.ensures.sets
          ∙ miss-keeps kept key old.layout old.sets w c.in-Miss.handle (rw c.generation.ensures at c.in-Miss.ensures.found);
      counts = search rules;
    }

-- a rule that the cache has keeps nothing
pub returns-in-Hit-clause-cache : goal.returns-in-Hit-clause-cache
returns-in-Hit-clause-cache g c = record { layout = search rules; sets = search rules; counts = search rules }

pub returns-in-Hit-clause-stays : goal.returns-in-Hit-clause-stays
returns-in-Hit-clause-stays g c = record { registers = c.exec.ensures.stays; errors = search rules }

pub returns-in-Hit-clause-memory : goal.returns-in-Hit-clause-memory
returns-in-Hit-clause-memory g c =
    let not_wanted = rules_want_none c.exec.result c.exec.ensures.refusals in
    record { never = λ no. not_wanted; asked = λ wanted. absurd (let e : true ≡ false = sym wanted ∙ not_wanted in cc) }
