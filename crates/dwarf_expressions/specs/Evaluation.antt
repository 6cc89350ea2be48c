-- The evaluation of an expression (DWARF 5, 2.5): a machine with a stack of values and the offset of the next operation. It
-- runs to the end, until it asks for a register, or to the first error.
use Rattle.std.specs.Prelude.{true, false, ◌≡◌, ℕ, zero, suc, ◌-◌, ◌%◌, ◌^◌, ◌==◌, ◌⊎◌, ℤ, pos, negsuc, ◌+ℤ◌, List, [], ◌∷◌, length, Option, Some, None, Result, Ok, Err, IfErr, nat_le, if◌then◌else◌}
use Rattle.dwarf_constants.specs.declared.common.Register.{Register}
use Rattle.dwarf_constants.specs.declared.error.Error.{Error}
use Rattle.dwarf_constants.specs.declared.error.Error.TheVariants.{BadBranchTarget, NotEnoughStackItems, OutOfMemory, TooManyIterations, UnsupportedAddressSize}
use Rattle.dwarf_readers.specs.InitialLength.{is_size}
use Rattle.dwarf_readers.specs.Stretch.{Stretch, ◌>>=◌, behind}
use Rattle.dwarf_expressions.specs.Effects.{stack_with, stack_after, stack_within}
use Rattle.dwarf_operations.specs.Operations.{operation_at}
use Rattle.dwarf_expressions.specs.declared.evaluation.EvaluationResult.{EvaluationResult}
use Rattle.dwarf_expressions.specs.declared.evaluation.EvaluationResult.TheVariants.{Complete, RequiresRegister}
use Rattle.dwarf_operations.specs.declared.op.Operation.{Operation}
use Rattle.dwarf_operations.specs.declared.op.Operation.TheVariants.{Bra, Skip, RegisterOffset}

-- what an evaluation takes: the expression's bytes, the size of an address in bytes, and how many values the stack has room
-- for, if it doesn't grow
pub record EvaluationInput : Type 0 where
  pub expression : Stretch
  pub address_size : ℕ
  pub capacity : Option ℕ

-- the stack, its top first, the offset of the next operation from the expression's start, and how many operations may still run
pub record StackMachine : Type 0 where
  pub stack : List ℕ
  pub offset : ℕ
  pub left : ℕ

-- the state of an evaluation: it can go on, waits for a register's value, to which it adds an offset, or is over with a value
-- or an error
pub data EvaluationState : Type 0 where
  Ready : StackMachine → EvaluationState
  Asking : Register → ℤ → StackMachine → EvaluationState
  Finished : ℕ → EvaluationState
  Refused : Error → EvaluationState

-- what an evaluation of these bytes takes, with this size of an address and this capacity of its stack
abbrev pub input_of : Stretch → ℕ → Option ℕ → EvaluationInput
input_of expression address_size capacity =
    record { expression = expression; address_size = address_size; capacity = capacity }

-- how many operations may still run
abbrev pub operations_left : EvaluationState → ℕ
operations_left (Ready m) = m.left
operations_left (Asking register offset m) = m.left
operations_left (Finished value) = 0
operations_left (Refused e) = 0

-- an evaluation: its input and its state
pub record EvaluationModel : Type 0 where
  pub program : EvaluationInput
  pub state : EvaluationState

-- how many operations an evaluation may run
abbrev pub operation_limit : ℕ
operation_limit = 4096

-- the machine before the first operation
abbrev pub first_machine : StackMachine
first_machine = record { stack = []; offset = 0; left = operation_limit }

-- an evaluation of this expression before its first operation
abbrev pub first_evaluation : EvaluationInput → EvaluationModel
first_evaluation input = record { program = input; state = Ready first_machine }

-- the target of a branch in an expression of this length, or at its end; the error names any other modulo 2^64
abbrev pub branch_target : ℕ → ℤ → Result ℕ Error
branch_target len (pos offset) = if nat_le offset len then Ok offset else Err (BadBranchTarget (offset % 2 ^ 64))
branch_target len (negsuc before) = Err (BadBranchTarget (2 ^ 64 - 1 - before))

-- how far an operation branches from its end, in bytes, if it does (2.5.1.5)
abbrev pub branch_of : Operation → List ℕ → Option ℤ
branch_of (Skip target) stack = Some target
branch_of (Bra target) (top ∷ rest) = if top == 0 then None else Some target
branch_of operation stack = None

-- the offset of the next operation, by the offset at which an operation ends and by how far it branches
abbrev pub offset_by : ℕ → ℕ → Option ℤ → Result ℕ Error
offset_by len end (Some target) = branch_target len (pos end +ℤ target)
offset_by len end None = Ok end

-- the machine after an operation, whose end is the machine's offset
abbrev pub machine_after : EvaluationInput → StackMachine → Operation → Result StackMachine Error
machine_after p m operation = do
  stack ← stack_within p.capacity (stack_after p.address_size operation m.stack)
  offset ← offset_by (length p.expression.bytes) m.offset (branch_of operation m.stack)
  Ok (record { stack = stack; offset = offset; left = m.left })

-- the state after an operation: it asks for a register, or the machine goes on
abbrev pub state_by_operation : EvaluationInput → StackMachine → Operation → Result EvaluationState Error
state_by_operation p m (RegisterOffset register offset) = Ok (Asking register offset m)
state_by_operation p m operation = do
  next ← machine_after p m operation
  Ok (Ready next)

-- the value of an expression: the top of its stack
abbrev pub top_of : List ℕ → Result ℕ Error
top_of (top ∷ rest) = Ok top
top_of [] = Err NotEnoughStackItems

-- the step at the expression's end: the evaluation is over, with the top of the stack
abbrev pub last_step : List ℕ → Result EvaluationState Error
last_step stack = do
  value ← top_of stack
  Ok (Finished value)

-- the state after the operation at the machine's offset
abbrev pub operation_step : EvaluationInput → StackMachine → Result EvaluationState Error
operation_step p m =
    if m.left == 0 then Err TooManyIterations
    else (do
      operation ← operation_at p.address_size (behind m.offset p.expression)
      state_by_operation p
          (record { stack = m.stack; offset = operation.1.offset - p.expression.offset; left = m.left - 1 }) operation.0)

-- one step: an operation, or the end of the expression
abbrev pub step : EvaluationInput → StackMachine → Result EvaluationState Error
step p m = if m.offset == length p.expression.bytes then last_step m.stack else operation_step p m

-- the state after a step and, if the machine can go on, after the steps that follow
abbrev pub state_behind : (StackMachine → EvaluationState) → Result EvaluationState Error → EvaluationState
state_behind go_on (Ok (Ready m)) = go_on m
state_behind go_on (Ok state) = state
state_behind go_on (Err e) = Refused e

-- the state after at most n steps
abbrev pub run_within : ℕ → EvaluationInput → StackMachine → EvaluationState
run_within zero p m = Ready m
run_within (suc n) p m = state_behind (run_within n p) (step p m)

-- the state in which a machine stops: each step but the last is one of the operations that may still run
unfoldable pub run : EvaluationInput → StackMachine → EvaluationState
run p m = run_within (suc m.left) p m

-- the state in which an evaluation stops
abbrev pub state_reached : EvaluationInput → EvaluationState → EvaluationState
state_reached p (Ready m) = run p m
state_reached p state = state

-- the machine with a register's value plus an offset on its stack
abbrev pub machine_with : EvaluationInput → ℕ → ℤ → StackMachine → Result StackMachine Error
machine_with p value offset m = do
  stack ← stack_within p.capacity (stack_with p.address_size (pos value +ℤ offset) m.stack)
  Ok (record { stack = stack; offset = m.offset; left = m.left })

-- the state in which an evaluation stops, given the value of the register that it asks for
abbrev pub state_reached_with : EvaluationInput → ℕ → EvaluationState → EvaluationState
state_reached_with p value (Asking register offset m) = state_behind (run p) (do
  next ← machine_with p value offset m
  Ok (Ready next))
state_reached_with p value state = state

-- Why an evaluation isn't made: addresses haven't 1, 2, 4 or 8 bytes, or there was no memory.
abbrev pub IsNotMade : ℕ → Error → Type 0
IsNotMade size e =
    ((is_size size ≡ false) × (e ≡ UnsupportedAddressSize size)) ⊎ ((is_size size ≡ true) × (e ≡ OutOfMemory))

-- A register was asked for, or the evaluation failed, and fails so again.
abbrev pub CanResume : EvaluationState → Type 0
CanResume (Ready m) = ⊥
CanResume (Asking register offset m) = Unit {0}
CanResume (Finished value) = ⊥
CanResume (Refused e) = Unit {0}

-- If a register is asked for, this holds.
abbrev pub IfAsks : Result EvaluationResult Error → Type 0 → Type 0
IfAsks result Holds = (register : Register) → result ≡ Ok (RequiresRegister register) → Holds

-- The state is the expected one; or there was no memory for a stack that grows.
abbrev pub ComesTo : Option ℕ → EvaluationState → EvaluationState → Type 0
ComesTo capacity expected state = (state ≡ expected) ⊎ ((capacity ≡ None) × (state ≡ Refused OutOfMemory))

-- An evaluation may run out of memory: its stack grows, or it ran out of memory before.
abbrev pub WantsMemory : EvaluationModel → Type 0
WantsMemory e = (e.program.capacity ≡ None) ⊎ (e.state ≡ Refused OutOfMemory)

-- An evaluation that can't go on by itself stays as it is.
abbrev pub StaysStopped : EvaluationState → EvaluationState → Type 0
StaysStopped (Ready m) new = Unit {0}
StaysStopped state new = new ≡ state

-- What an evaluation returns in a state. It never stops while it could go on.
abbrev pub Answers : EvaluationState → Result EvaluationResult Error → Type 0
Answers (Ready m) answer = ⊥
Answers (Asking register offset m) answer = answer ≡ Ok (RequiresRegister register)
Answers (Finished value) answer = answer ≡ Ok Complete
Answers (Refused e) answer = answer ≡ Err e

-- the value of an evaluation that is over
abbrev pub value_in : EvaluationState → Option ℕ
value_in (Finished value) = Some value
value_in state = None

-- An evaluation went on to the expected state, or ran out of memory; the result says the state.
pub record GoesTo (old new : EvaluationModel) (expected : EvaluationState) (result : Result EvaluationResult Error) : Type 0 where
  pub program : new.program ≡ old.program
  pub state : ComesTo old.program.capacity expected new.state
  pub answer : Answers new.state result
  pub refused : IfErr result (λ e. new.state ≡ Refused e)
