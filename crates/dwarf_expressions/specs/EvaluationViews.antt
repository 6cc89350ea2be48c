-- The state of an evaluation and of its machine, as the contracts of private functions see it.
use Rattle.std.specs.Prelude.{◌≡◌, ◌≤◌, ◌-◌, ◌+ℤ◌, ℕ, ◌⊎◌, ℤ, pos, length, Option, Some, None, Result, Ok, Err}
use Rattle.dwarf_constants.specs.declared.error.Error.{Error}
use Rattle.dwarf_constants.specs.declared.error.Error.TheVariants.{OutOfMemory}
use Rattle.dwarf_readers.specs.Stretch.{Stretch, ◌>>=◌, behind}
use Rattle.dwarf_expressions.specs.Evaluation.{StackMachine, EvaluationInput, EvaluationState, Ready, Asking, Finished, Refused, branch_target, first_machine}
use Rattle.dwarf_expressions.specs.declared.evaluation.EvaluationState.{EvaluationState as StoredState}
use Rattle.dwarf_expressions.specs.declared.evaluation.EvaluationState.TheVariants as kept
use Rattle.dwarf_expressions.specs.declared.machine.Stop.{Stop}
use Rattle.dwarf_expressions.specs.declared.machine.Stop.TheVariants as stop

-- a machine and its program
pub record Course : Type 0 where
  pub program : EvaluationInput
  pub machine : StackMachine

-- a machine before the first operation of its program
abbrev pub first_course : EvaluationInput → Course
first_course input = record { program = input; machine = first_machine }

-- the state of an evaluation, by what the code stores of it and by its machine
abbrev pub evaluation_state : StoredState → StackMachine → EvaluationState
evaluation_state kept.Ready m = Ready m
evaluation_state (kept.Asking register offset) m = Asking register offset m
evaluation_state (kept.Finished value) m = Finished value
evaluation_state (kept.Refused e) m = Refused e

-- The rest of an expression begins at this offset in it.
pub record IsRestAt (expression rest : Stretch) (offset : ℕ) : Type 0 where
  pub rest_is : rest ≡ behind offset expression
  pub within : offset ≤ length expression.bytes

-- what is left of an expression after a branch to a target, in bytes from the rest that begins where the operation ends
abbrev pub rest_at_target : (expression rest : Stretch) → (target : ℤ) → Result Stretch Error
rest_at_target expression rest target = do
  offset ← branch_target (length expression.bytes) (pos (rest.offset - expression.offset) +ℤ target)
  Ok (behind offset expression)

-- An evaluation can go on by itself.
abbrev pub IsReady : EvaluationState → Type 0
IsReady (Ready m) = Unit {0}
IsReady (Asking register offset m) = ⊥
IsReady (Finished value) = ⊥
IsReady (Refused e) = ⊥

-- An evaluation waits for a register's value, to which it adds this offset.
abbrev pub AddsOffset : EvaluationState → ℤ → Type 0
AddsOffset (Ready m) added = ⊥
AddsOffset (Asking register offset m) added = offset ≡ added
AddsOffset (Finished value) added = ⊥
AddsOffset (Refused e) added = ⊥

-- the state of a machine that stopped
abbrev pub stopped_state : Stop → StackMachine → EvaluationState
stopped_state (stop.Finished value) m = Finished value
stopped_state (stop.Asking register offset) m = Asking register offset m

-- The outcome of an operation is the expected one, the machine goes on, stopped or failed; or there was no memory.
abbrev pub Comes : Option ℕ → Result EvaluationState Error → Result (Option Stop) Error → StackMachine → Type 0
Comes capacity expected (Ok None) m = expected ≡ Ok (Ready m)
Comes capacity expected (Ok (Some s)) m = expected ≡ Ok (stopped_state s m)
Comes capacity expected (Err e) m = (expected ≡ Err e) ⊎ ((capacity ≡ None) × (e ≡ OutOfMemory))

-- A machine became the expected one, or failed with the expected error; or there was no memory.
abbrev pub Changes : Option ℕ → Result StackMachine Error → Result (Unit {0}) Error → StackMachine → Type 0
Changes capacity expected (Ok _) m = expected ≡ Ok m
Changes capacity expected (Err e) m = (expected ≡ Err e) ⊎ ((capacity ≡ None) × (e ≡ OutOfMemory))

-- A machine stopped in the expected state; or there was no memory.
abbrev pub Stops : Option ℕ → EvaluationState → Result Stop Error → StackMachine → Type 0
Stops capacity expected (Ok s) m = expected ≡ stopped_state s m
Stops capacity expected (Err e) m = (expected ≡ Refused e) ⊎ ((capacity ≡ None) × (e ≡ OutOfMemory))
