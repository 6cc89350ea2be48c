use Rattle.std.proofs.Common.{◌+◌, ◌≤◌, length}
use Rattle.std.specs.List.{All}
use Rattle.std.specs.Prelude.{vec_len, vec_capacity}
use Rattle.framehop_registers.specs.Callback.{AnswersBy}
use Rattle.framehop_histories.specs.CommandViews.{OfCallback, walks_of}
use Rattle.framehop_histories.proofs.CommandLists.{IsUnderWay}
use Rattle.framehop_histories.proofs.commands.perform.Given as goal

-- what the commands that are left are answered completes the answers so far
abbrev pub invariant-loop-command : goal.invariant-loop-command
invariant-loop-command g l = record {
  callable : All (OfCallback (goal.F-IsAlwaysCallable g)) l.commands.items;
  room : vec_len l.answers + length l.commands.items ≤ vec_capacity l.answers;
  under_way : IsUnderWay g.A.ModuleUnwinding.takes_memory g.A.ModuleUnwinding.asks_memory g.A.ModuleUnwinding.meanings (AnswersBy (goal.F-step g))
      l.fn.session l.session (walks_of l.walks.items) l.fn.commands.items l.commands.items l.answers.items;
}

abbrev pub decreases-loop-command : goal.decreases-loop-command
decreases-loop-command g l = length l.commands.items
