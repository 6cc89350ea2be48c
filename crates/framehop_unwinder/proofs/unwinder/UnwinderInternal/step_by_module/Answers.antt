use Rattle.std.proofs.Common.{rules, ◌∙◌, ap, sym}
use Rattle.framehop_unwinder.specs.Attempt.{attempt_at}
use Rattle.framehop_unwinder.specs.CacheViews.{rules_of}
use Rattle.framehop_rules.specs.Slots.{Key, key_of}
use Rattle.framehop_unwinder.specs.RulesKept.{rule_kept, rule_of_attempt}
use Rattle.framehop_unwinder.specs.Trials.{wants_memory, rule_of_result}
use Rattle.framehop_unwinder.proofs.Steps.{answer-keeps, wanted-keeps-none}
use Rattle.framehop_unwinder.proofs.unwinder.UnwinderInternal.step_by_module.Goals as goal

-- what the modules say is judged
pub returns-clause-step : goal.returns-clause-step
returns-clause-step g c =
    let m = g.A.ModuleUnwinding.meanings in
    let tried = c.attempt-answer.ensures.answers.answer in
    let done = c.execute.ensures in
    record {
      said = λ words answers wanted.
          let got = sym done.wanted ∙ wanted in
          done.step.said words (tried.still words answers) c.args.regs.now (attempt_at m c.args.self.now.modules c.args.is_first c.args.address) got (tried.said words answers got);
      still = λ words answers. done.step.still words (tried.still words answers);
    }

-- and what they have kept is
pub returns-clause-cache : goal.returns-clause-cache
returns-clause-cache g c =
    let m = g.A.ModuleUnwinding.meanings in
    let fallback = g.A.UnwindRule.UnwindRule.fallback in
    let key : Key = key_of c.args.address c.args.is_first c.args.self.now.generation in
    let old = rules_of c.args.cache.now in
    let kept = rule_kept m c.args.self.now.modules in
    let answer = c.attempt-answer.result in
    let is = c.execute.ensures.wanted in
    record {
      layout = search rules;
      sets = c.keep.ensures.sets
          ∙ answer-keeps kept key old.layout old.sets (wants_memory c.execute.result) c.args.handle (rule_of_result fallback answer) (kept key)
          (λ wanted. wanted-keeps-none fallback answer (sym is ∙ wanted))
          (λ not_wanted. c.attempt-answer.ensures.answers.kept fallback (sym is ∙ not_wanted)
          ∙ ap (λ f. rule_of_attempt f (attempt_at m c.args.self.now.modules c.args.is_first c.args.address)) (sym g.met.A.ModuleUnwinding.fallback_is));
      counts = search rules;
    }

pub returns-clause-stays : goal.returns-clause-stays
returns-clause-stays g c = record {
  registers = c.execute.ensures.stays c.args.regs.now c.attempt-answer.ensures.answers.registers;
  errors = c.execute.ensures.refusals;
}

-- the module that is found wants memory
pub returns-clause-memory : goal.returns-clause-memory
returns-clause-memory g c = record {
  never = λ no. c.execute.ensures.wanted ∙ c.attempt-answer.ensures.memory.never no;
  asked = λ wanted. c.attempt-answer.ensures.memory.asked (sym c.execute.ensures.wanted ∙ wanted);
}
