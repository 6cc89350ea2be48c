use Rattle.std.proofs.Common.{◌≡◌, ◌+◌}
use Rattle.sorted_starts.proofs.halves.count_steps.Given as goal

abbrev pub invariant-loop-step : goal.invariant-loop-step
invariant-loop-step g l = l.steps ≡ l.fn.steps + l.step
