-- Which errors a run returns.
use Rattle.std.specs.Prelude.{Bool, IsTrue, Result, Ok, IsErrOf, ◌↔◌}
use Rattle.json_program.specs.declared.status.RunError.{RunError}
use Rattle.json_program.specs.declared.status.RunError.TheVariants.{Read, Write}

-- The error is Read if and only if the source has failed, and Write if and only if the sink has. (A call without a source or a sink
-- never returns its error: nothing has failed there.)
pub record ReportsFailures {T : Type 0} (result : Result T RunError) (source_failed sink_failed : Bool) : Type 0 where
  pub read : IsErrOf result Read ↔ IsTrue source_failed
  pub write : IsErrOf result Write ↔ IsTrue sink_failed

-- the result of a write that succeeds
abbrev pub written : Result (Unit {0}) RunError
written = Ok tt
