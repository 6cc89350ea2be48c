use Rattle.std.proofs.Common.{◌≡◌, ◌-◌}
use Rattle.rust_names.specs.Runs.{run}
use Rattle.rust_names.specs.State.{view}
use Rattle.rust_names.proofs.machine.Machine.run.Given as goal

-- the steps that are left do what all would have done
abbrev pub invariant-loop-taken : goal.invariant-loop-taken
invariant-loop-taken l = run (l.steps - l.taken) (view l.self) ≡ run l.steps (view l.fn.self)
