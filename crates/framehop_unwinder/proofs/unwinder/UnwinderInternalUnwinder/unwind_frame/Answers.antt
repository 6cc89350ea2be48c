use Rattle.std.proofs.Common.{refl, subst}
use Rattle.framehop_rules.specs.Slots.{Key}
use Rattle.framehop_unwinder.specs.CacheViews.{rules_of}
use Rattle.framehop_unwinder.specs.Frames.{frame_of}
use Rattle.framehop_unwinder.specs.RulesKept.{StepsCache, key_for, rule_kept}
use Rattle.framehop_unwinder.specs.Trials.{wants_memory}
use Rattle.framehop_unwinder.proofs.HitReads.{frame-judged, frame-reads}
use Rattle.framehop_unwinder.proofs.Slots.{loads_fit}
use Rattle.framehop_unwinder.proofs.Steps.{asked-from, key-is}
use Rattle.framehop_unwinder.proofs.unwinder.UnwinderInternalUnwinder.unwind_frame.Goals as goal

-- the words of the rule that was found for the frame
pub returns-clause-order : goal.returns-clause-order
returns-clause-order g c =
    frame-reads _ _ _ g.A.UnwindRule.UnwindRule.reads c.args.regs.now (rules_of c.args.cache.now) c.args.address c.address_for_lookup-lookup_address.result
    c.is_return_address-is_first_frame.result c.args.self.now.generation c.address_for_lookup-lookup_address.ensures c.is_return_address-is_first_frame.ensures
    c.step.ensures.step.order

-- by the modules
pub returns-clause-step : goal.returns-clause-step
returns-clause-step g c =
    frame-judged _ _ _ g.A.ModuleUnwinding.meanings c.args.self.now.modules _ c.step.result c.args.regs.now c.step.new.regs c.args.address
    c.address_for_lookup-lookup_address.result c.is_return_address-is_first_frame.result c.address_for_lookup-lookup_address.ensures
    c.is_return_address-is_first_frame.ensures c.step.ensures.step.over

-- the key of the frame
pub returns-clause-cache : goal.returns-clause-cache
returns-clause-cache g c =
    let m = g.A.ModuleUnwinding.meanings in
    let is = key-is c.args.address c.address_for_lookup-lookup_address.result c.is_return_address-is_first_frame.result c.args.self.now.generation
    c.address_for_lookup-lookup_address.ensures c.is_return_address-is_first_frame.ensures in
    subst (λ (key : Key). StepsCache (rule_kept m c.args.self.now.modules) key (wants_memory c.step.result) (rules_of c.args.cache.now) (rules_of c.step.new.cache)) is
    c.step.ensures.cache

-- so it goes on fitting the unwinders of this generation, whose modules are these, and all of others
pub returns-clause-fits : goal.returns-clause-fits
returns-clause-fits g c =
    let m = g.A.ModuleUnwinding.meanings in
    let one = c.args.self.now in
    let wanted = wants_memory c.step.result in
    let old = rules_of c.args.cache.now in
    let new = rules_of c.step.new.cache in
    let key : Key = key_for (frame_of c.args.address) one.generation in
    let is = key-is c.args.address c.address_for_lookup-lookup_address.result c.is_return_address-is_first_frame.result one.generation
    c.address_for_lookup-lookup_address.ensures c.is_return_address-is_first_frame.ensures in
    let steps = subst (λ (key : Key). StepsCache (rule_kept m one.modules) key wanted old new) is c.step.ensures.cache in
    λ other same fits. loads_fit m one other wanted key old new refl same steps fits

-- the module that is found wants memory
pub returns-clause-memory : goal.returns-clause-memory
returns-clause-memory g c = record {
  never = c.step.ensures.memory.never;
  asked = λ wanted. asked-from g.A.ModuleUnwinding.asks_memory c.args.self.now.modules c.args.address c.address_for_lookup-lookup_address.result c.is_return_address-is_first_frame.result
      c.address_for_lookup-lookup_address.ensures c.is_return_address-is_first_frame.ensures (c.step.ensures.memory.asked wanted);
}
