use Rattle.std.proofs.Common.{◌≡◌, ◌-◌, ◌++◌}
use Rattle.framehop_registers.specs.Callback.{AnswersBy, Words}
use Rattle.framehop_unwinder.specs.IdViews.{modules_by}
use Rattle.framehop_unwinder.specs.Judge.{judge}
use Rattle.framehop_unwinder.specs.WalkViews.{walk_of}
use Rattle.test_framehop.specs.Callers.{addresses_from}
use Rattle.test_framehop.proofs.callers.addresses_of.Given as goal

-- the addresses so far and those that are left are all of the walk, by the modules that the unwinder had and has
abbrev pub invariant-loop : goal.invariant-loop
invariant-loop g l =
    let old = l.fn.frames in
    let judgment = judge g.A.ModuleUnwinding.meanings (modules_by old.session.now old.on.unwinder) in
    record {
      callable : goal.F-IsAlwaysCallable g l.frames.stack.now;
      unwinders : l.frames.session.now.unwinders ≡ old.session.now.unwinders;
      unwinder : l.frames.on.unwinder ≡ old.on.unwinder;
      answers : (words : Words) → AnswersBy (goal.F-step g) old.stack.now words → AnswersBy (goal.F-step g) l.frames.stack.now words;
      passed : (words : Words) → AnswersBy (goal.F-step g) old.stack.now words
          → l.addresses.items ++ addresses_from judgment words (l.most - l.counter) (walk_of l.frames.on.walk)
          ≡ addresses_from judgment words l.most (walk_of old.on.walk);
    }
