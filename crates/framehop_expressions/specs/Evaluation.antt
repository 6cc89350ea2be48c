-- The value of an expression in a frame (DWARF 5, 2.5): a machine with a stack of values of 64 bits, which knows registers and reads
-- words of memory.
use Rattle.std.specs.Prelude.{ℕ, zero, suc, ◌-◌, ◌*◌, ◌%◌, ◌^◌, ◌==◌, ℤ, pos, ◌+ℤ◌, List, [], ◌∷◌, length, Option, Some, None, Result, Ok, Err, if◌then◌else◌}
use Rattle.std.specs.Option.{ok_or}
use Rattle.dwarf_constants.specs.declared.common.Register.{Register}
use Rattle.dwarf_constants.specs.declared.error.Error.{Error}
use Rattle.dwarf_constants.specs.declared.error.Error.TheVariants.{NotEnoughStackItems, TooManyIterations}
use Rattle.dwarf_readers.specs.Remainder.{size_of}
use Rattle.dwarf_readers.specs.Stretch.{Stretch, ◌>>=◌, behind}
use Rattle.dwarf_operations.specs.declared.op.Operation.{Operation}
use Rattle.dwarf_operations.specs.declared.op.Operation.TheVariants.{RegisterOffset}
use Rattle.dwarf_expressions.specs.Effects.{stack_after, stack_with, stack_within}
use Rattle.dwarf_expressions.specs.Evaluation.{branch_of, branch_target, top_of}
use Rattle.framehop_registers.specs.Callback.{Words}
use Rattle.framehop_expressions.specs.Operations.{memory_operation_at}
use Rattle.framehop_expressions.specs.StackViews.{most}
use Rattle.framehop_expressions.specs.declared.operation.MemoryOperation.{MemoryOperation}
use Rattle.framehop_expressions.specs.declared.operation.MemoryOperation.TheVariants.{Plain, Deref}
use Rattle.framehop_expressions.specs.declared.unknown.Unknown.{Unknown}
use Rattle.framehop_expressions.specs.declared.unknown.Unknown.TheVariants as unknown

-- what values are computed from: the registers that are known, by their numbers, and the words of memory
pub record Frame : Type 0 where
  pub registers : ℕ → Option ℕ
  pub words : Words

-- a machine: its expression, its stack, the top first, and what is left of the expression
pub record Machine : Type 0 where
  pub expression : Stretch
  pub stack : List ℕ
  pub rest : Stretch

-- an answer, or why the expression has no value
abbrev pub unless_refused : {A : Type 0} → Result A Error → Result A Unknown
unless_refused (Ok x) = Ok x
unless_refused (Err e) = Err (unknown.Expression e)

-- what is left after an operation, by how far it branches from its end (2.5.1.5)
abbrev pub rest_by : (expression rest : Stretch) → Option ℤ → Result Stretch Error
rest_by expression rest None = Ok rest
rest_by expression rest (Some target) = do
  offset ← branch_target (length expression.bytes) (pos (length expression.bytes - length rest.bytes) +ℤ target)
  Ok (behind offset expression)

-- the machine after an operation that reads no memory and no register
abbrev pub after_plain : Machine → Operation → Result Machine Error
after_plain m operation = do
  stack ← stack_within most (stack_after 8 operation m.stack)
  rest ← rest_by m.expression m.rest (branch_of operation m.stack)
  Ok (record { expression = m.expression; stack = stack; rest = rest })

-- .. with a register's value plus an offset on its stack (2.5.1.2)
abbrev pub after_register : Register → ℤ → Machine → Option ℕ → Result Machine Unknown
after_register register offset m None = Err (unknown.Register register)
after_register register offset m (Some value) = unless_refused (do
  stack ← stack_within most (stack_with 8 (pos value +ℤ offset) m.stack)
  Ok (record { expression = m.expression; stack = stack; rest = m.rest }))

-- the word at an address
abbrev pub word_value : Words → ℕ → Result ℕ Unknown
word_value words at = ok_or (words at) (unknown.Memory at)

-- .. with the number in so many bytes of a word, the lowest first, in place of its address
abbrev pub after_word : ℕ → List ℕ → Machine → Result ℕ Unknown → Result Machine Unknown
after_word size below m (Err why) = Err why
after_word size below m (Ok word) =
    Ok (record { expression = m.expression; stack = word % 2 ^ (8 * size) ∷ below; rest = m.rest })

-- .. with what is at the address on top in its place (2.5.1.3)
abbrev pub after_deref : Words → ℕ → Machine → List ℕ → Result Machine Unknown
after_deref words size m (at ∷ below) = after_word size below m (word_value words at)
after_deref words size m [] = Err (unknown.Expression NotEnoughStackItems)

-- the machine after an operation that reads no memory
abbrev pub after_unread : (ℕ → Option ℕ) → Machine → Operation → Result Machine Unknown
after_unread registers m (RegisterOffset register offset) = after_register register offset m (registers register.0)
after_unread registers m operation = unless_refused (after_plain m operation)

-- the machine after an operation, behind which its rest begins
abbrev pub after_operation : Frame → Machine → MemoryOperation → Result Machine Unknown
after_operation f m (Plain operation) = after_unread f.registers m operation
after_operation f m (Deref size) = after_deref f.words size m m.stack

-- the machine after the operation that is read
abbrev pub after_read : Frame → Machine → Result (MemoryOperation × Stretch) Error → Result Machine Unknown
after_read f m (Ok (operation, rest)) = after_operation f (record { expression = m.expression; stack = m.stack; rest = rest }) operation
after_read f m (Err e) = Err (unknown.Expression e)

-- the machine after the next operation
abbrev pub after_step : Frame → Machine → Result Machine Unknown
after_step f m = after_read f m (memory_operation_at m.rest)

-- a turn of a machine: it goes on with the next operation, or it is over, with a value or why there is none
pub data Turn : Type 0 where
  GoesOn : Machine → Turn
  IsOver : Result ℕ Unknown → Turn

-- the machine goes on, unless the operation failed
abbrev pub turn_by : Result Machine Unknown → Turn
turn_by (Ok next) = GoesOn next
turn_by (Err why) = IsOver (Err why)

-- at the expression's end its value is the top of the stack
abbrev pub turn : Frame → Machine → Turn
turn f m = if size_of m.rest == 0 then IsOver (unless_refused (top_of m.stack)) else turn_by (after_step f m)

-- the value behind a turn
abbrev pub value_behind : (Machine → Result ℕ Unknown) → Turn → Result ℕ Unknown
value_behind go_on (GoesOn m) = go_on m
value_behind go_on (IsOver result) = result

-- the value in so many turns
abbrev pub value_within : ℕ → Frame → Machine → Result ℕ Unknown
value_within zero f m = Err (unknown.Expression TooManyIterations)
value_within (suc n) f m = value_behind (value_within n f) (turn f m)

-- the turns that there are at most: 4,096 operations and the end
abbrev pub turns : ℕ
turns = 4097

-- the values on the stack before the first operation
abbrev pub first_stack : Option ℕ → List ℕ
first_stack None = []
first_stack (Some value) = value ∷ []

-- the machine before the first operation
abbrev pub first_machine : Stretch → Option ℕ → Machine
first_machine expression first = record { expression = expression; stack = first_stack first; rest = expression }

-- the value of an expression, with this value on its stack first, if there is one
unfoldable pub expression_value : Frame → Stretch → Option ℕ → Result ℕ Unknown
expression_value f expression first = value_within turns f (first_machine expression first)
