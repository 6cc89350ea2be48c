use Rattle.std.proofs.Common.{◌≡◌, ◌∙◌, ◌<◌, ◌+◌, ℕ, [], ◌∷◌, length, take, drop, ap, sym, subst, refl, arith, Option, Some, Result, Ok}
use Rattle.std.proofs.lemmas.List.{drop-drop, drop-set-lt, length-set, take_more_set}
use Rattle.framehop_registers.specs.declared.error.Error.{Error}
use Rattle.framehop_unwinder.specs.CacheViews.{rules_of}
use Rattle.framehop_unwinder.specs.Frames.{frame_of, later_frame}
use Rattle.framehop_unwinder.specs.Memory.{WantsFrom}
use Rattle.framehop_unwinder.specs.Runs.{PassesFrames, StepsWith, Stops, point, wants_at_end}
use Rattle.framehop_unwinder.proofs.PassedFrames.{passes-both}
use Rattle.framehop_unwinder.proofs.runs.run_steps.Goals as goal

pub loop-count-preserved : goal.loop-count-preserved
loop-count-preserved g c =
    let l = c.loop-count in
    let address = c.address.result in
    let within : l.count < length l.frames = omega (arith, c.loop-count-test.true) in
    let caller = c.in-Ok.ensures.caller in
    let step = c.unwind_frame-answer.ensures in
    let Step = StepsWith (goal.F-step g) g.A.UnwindRule.UnwindRule.reads g.A.ModuleUnwinding.meanings c.args.unwinder.now in
    let old = point c.args.at.now c.args.regs.now c.args.read_stack.now (rules_of c.args.cache.now) in
    let mid = point l.at l.regs l.read_stack (rules_of l.cache) in
    let stepped = c.unwind_frame-answer.new in
    let new = point c.in-Ok.caller stepped.regs stepped.read_stack (rules_of stepped.cache) in
    let gives : c.unwind_frame-answer.result ≡ Ok (Some address) = caller.gives ∙ ap (λ (a : ℕ). Ok (Some a)) (sym c.address.ensures) in
    record {
      room = let sized = length-set l.frames l.count address in omega (arith, sized, within);
      passed =
          subst (λ frames. PassesFrames Step old frames new) (sym (take_more_set l.frames l.count address within))
          (passes-both Step old mid new (take l.count l.frames) (address ∷ []) l.invariant.passed (
            new,
            record {
              step = subst (λ (answer : Result (Option ℕ) Error). Step answer mid new) gives
                  (record { over = step.step; order = step.order; cache = step.cache; stays = step.stays });
              frame = caller.frame ∙ ap later_frame (sym c.address.ensures);
              some = λ null. caller.some (sym c.address.ensures ∙ null);
            },
            refl,
          ));
      kept =
          drop-set-lt (l.count + 1) l.frames l.count address (omega arith)
          ∙ sym (drop-drop 1 l.count l.frames) ∙ ap (drop 1) l.invariant.kept ∙ drop-drop 1 l.count c.args.frames.now;
      callable = step.callable;
    }

pub returns-in-Err-clause-runs : goal.returns-in-Err-clause-runs
returns-in-Err-clause-runs g c =
    let l = c.loop-count in
    let step = c.unwind_frame-answer.ensures in
    let Step = StepsWith (goal.F-step g) g.A.UnwindRule.UnwindRule.reads g.A.ModuleUnwinding.meanings c.args.unwinder.now in
    let stepped = c.unwind_frame-answer.new in
    let mid = point l.at l.regs l.read_stack (rules_of l.cache) in
    let new = point l.at stepped.regs stepped.read_stack (rules_of stepped.cache) in (
      mid,
      l.invariant.passed,
      subst (λ (answer : Option (Result (Option ℕ) Error)). Stops Step answer mid new) (sym c.in-Err.ensures.end)
          (record { step = record { over = step.step; order = step.order; cache = step.cache; stays = step.stays }; frame = refl }),
    )

pub returns-in-Err-clause-memory : goal.returns-in-Err-clause-memory
returns-in-Err-clause-memory g c =
    subst (λ (answer : Option (Result (Option ℕ) Error)). WantsFrom g.A.ModuleUnwinding.takes_memory g.A.ModuleUnwinding.asks_memory c.args.unwinder.now.modules
    (frame_of c.loop-count.at) (wants_at_end answer)) (sym c.in-Err.ensures.end) c.unwind_frame-answer.ensures.memory
