-- The value of an expression (DWARF 5, 2.5) in a frame, some of whose registers have values.
use Rattle.std.specs.Prelude.{ℕ, zero, suc, Option, Some, None, option_and_then, Result, Ok, Err, if◌then◌else◌}
use Rattle.dwarf_constants.specs.declared.common.Register.{Register}
use Rattle.dwarf_constants.specs.declared.error.Error.{Error}
use Rattle.dwarf_readers.specs.InitialLength.{is_size}
use Rattle.dwarf_readers.specs.Stretch.{Stretch}
use Rattle.dwarf_expressions.specs.Evaluation.{EvaluationInput, EvaluationState, Ready, Asking, Finished, Refused, state_reached, first_machine, operations_left, state_reached_with}

-- the registers that have values, by their DWARF numbers
abbrev pub RegisterValues : Type 0
RegisterValues = Register → Option ℕ

-- the value of an evaluation from a state on, with at most n requests: each register that it asks for is given its value; if the
-- register has none, there is no value
abbrev pub value_within : ℕ → EvaluationInput → RegisterValues → EvaluationState → Option ℕ
value_within n p registers (Ready m) = None
value_within n p registers (Finished value) = Some value
value_within n p registers (Refused e) = None
value_within zero p registers (Asking register offset m) = None
value_within (suc n) p registers (Asking register offset m) =
    option_and_then (λ value. value_within n p registers (state_reached_with p value (Asking register offset m))) (registers register)

-- the value of an evaluation from a state on: each request takes an operation, and the state may have taken one before
abbrev pub value_by_requests : EvaluationInput → RegisterValues → EvaluationState → Option ℕ
value_by_requests p registers state = value_within (suc (operations_left state)) p registers state

-- an expression of these bytes, with addresses of this size in bytes, and a limit of the values on its stack, if there is one
abbrev pub expression_program : (limit : Option ℕ) → (address_size : ℕ) → Stretch → EvaluationInput
expression_program limit address_size bytes = record { expression = bytes; address_size = address_size; capacity = limit }

-- the value of an expression of these bytes
abbrev pub program_value : (limit : Option ℕ) → (address_size : ℕ) → Stretch → RegisterValues → Option ℕ
program_value limit address_size bytes registers =
    let p = expression_program limit address_size bytes in
    value_by_requests p registers (state_reached p (Ready first_machine))

-- the value of an expression, if its bytes are there and addresses have 1, 2, 4 or 8 bytes
abbrev pub expression_value : (limit : Option ℕ) → (address_size : ℕ) → RegisterValues → Result Stretch Error → Option ℕ
expression_value limit address_size registers (Ok bytes) =
    if is_size address_size
    then program_value limit address_size bytes registers
    else None
expression_value limit address_size registers (Err e) = None
