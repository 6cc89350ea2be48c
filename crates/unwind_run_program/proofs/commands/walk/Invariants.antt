use Rattle.std.proofs.Common.{◌-◌}
use Rattle.std.specs.Prelude.{string_bytes}
use Rattle.framehop_registers.specs.Callback.{Words, AnswersBy}
use Rattle.framehop_histories.specs.Commands.{NewWalk, NextFrame}
use Rattle.framehop_histories.specs.CommandViews.{walks_of}
use Rattle.framehop_histories.specs.Performs.{LoadsStay}
use Rattle.framehop_unwinder.specs.Progress.{SessionModel, IsAt}
use Rattle.unwind_run_program.specs.Outputs.{next_state, without_walks}
use Rattle.unwind_run_program.proofs.Walks.{SoFar}
use Rattle.unwind_run_program.proofs.commands.walk.Given as goal

-- what is written so far and what the moves that are left write make what the whole walk writes
abbrev pub invariant-loop : goal.invariant-loop
invariant-loop g l =
    let m = g.A.ModuleUnwinding.meanings in
    let w = l.walk in
    record {
      callable : goal.F-IsAlwaysCallable g l.read_stack;
      loads : LoadsStay l.fn.session l.session;
      told : (words : Words) → AnswersBy (goal.F-step g) l.fn.read_stack words
          → AnswersBy (goal.F-step g) l.read_stack words
          × ((model : SessionModel g.row.A-UnwindData.Denot) → IsAt model l.fn.session
          → SoFar m (NextFrame w.unwinder w.cache 0 words) w.limit (next_state m (NewWalk w.pc w.regs) (without_walks model)) (w.limit - l.counter) l.session (walks_of l.walks.items) (string_bytes l.text));
    }
