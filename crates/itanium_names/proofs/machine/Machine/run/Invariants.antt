use Rattle.std.proofs.Common.{◌≡◌, ◌-◌}
use Rattle.itanium_names.specs.Runs.{run}
use Rattle.itanium_names.specs.Views.{view}
use Rattle.itanium_names.proofs.machine.Machine.run.Given as goal

-- the steps that are left do what all would have done
abbrev pub invariant-loop-taken : goal.invariant-loop-taken
invariant-loop-taken l = run (l.steps - l.taken) (view l.self) ≡ run l.steps (view l.fn.self)
