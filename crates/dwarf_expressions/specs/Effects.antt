-- The effect of operations on the stack (DWARF 5, 2.5.1), in whole numbers. A stack is the list of its values, the top first;
-- an address has n bytes.
use Rattle.std.specs.Prelude.{ℕ, ◌+◌, ◌-◌, ◌*◌, ◌/◌, ◌%◌, ◌^◌, ◌==◌, ℤ, pos, neg_ℤ, ◌-ℤ◌, unsigned_abs, int_div, int_le, int_lt, List, [], ◌∷◌, length, nat_le, Bool, true, false, not, Option, Some, None, Result, Ok, Err, slice_get, bit_and, bit_or, bit_xor, if◌then◌else◌}
use Rattle.std.specs.Int.Signed.{shr_z}
use Rattle.std.specs.Option.{ok_or}
use Rattle.dwarf_constants.specs.declared.error.Error.{Error}
use Rattle.dwarf_constants.specs.declared.error.Error.TheVariants.{DivisionByZero, NotEnoughStackItems, StackFull, UnsupportedEvaluation}
use Rattle.dwarf_readers.specs.Stretch.{◌>>=◌, requirement}
use Rattle.dwarf_expressions.specs.Values.{modulus, signed, value_of}
use Rattle.dwarf_operations.specs.declared.op.Operation.{Operation}
use Rattle.dwarf_operations.specs.declared.op.Operation.TheVariants.{Address, UnsignedConstant, SignedConstant, Pick, Drop, Swap, Rot, Abs, And, Div, Minus, Mod, Mul, Neg, Not, Or, Plus, PlusConstant, Shl, Shr, Shra, Xor, Bra, Eq, Ge, Gt, Le, Lt, Ne, Skip, RegisterOffset, Nop}

-- a stack, or an error
abbrev pub Stack : Type 0
Stack = Result (List ℕ) Error

-- the stack with the value of a whole number on top
abbrev pub stack_with : ℕ → ℤ → List ℕ → Stack
stack_with n z stack = Ok (value_of n z ∷ stack)

-- the stack with a copy of the value at an index on top; the top has index 0
abbrev pub stack_with_copy : ℕ → List ℕ → Stack
stack_with_copy index stack = do
  value ← ok_or (slice_get stack index) NotEnoughStackItems
  Ok (value ∷ stack)

-- the stack without its top
abbrev pub stack_without_top : List ℕ → Stack
stack_without_top (top ∷ rest) = Ok rest
stack_without_top [] = Err NotEnoughStackItems

-- the stack with its top and the value below it exchanged
abbrev pub swapped_stack : List ℕ → Stack
swapped_stack (top ∷ second ∷ rest) = Ok (second ∷ top ∷ rest)
swapped_stack stack = Err NotEnoughStackItems

-- the stack with its top moved below the two values under it
abbrev pub rotated_stack : List ℕ → Stack
rotated_stack (top ∷ second ∷ third ∷ rest) = Ok (second ∷ third ∷ top ∷ rest)
rotated_stack stack = Err NotEnoughStackItems

-- the stack with the top replaced by what f gives for it
abbrev pub with_top : ℕ → (ℕ → Result ℤ Error) → List ℕ → Stack
with_top n f (top ∷ rest) = do
  result ← f top
  stack_with n result rest
with_top n f [] = Err NotEnoughStackItems

-- the stack with the two values on top replaced by what f gives for them: the second is the left operand
abbrev pub with_two : ℕ → (ℕ → ℕ → Result ℤ Error) → List ℕ → Stack
with_two n f (right ∷ left ∷ rest) = do
  result ← f left right
  stack_with n result rest
with_two n f stack = Err NotEnoughStackItems

-- the result, unless the divisor is 0
abbrev pub unless_zero : ℕ → ℤ → Result ℤ Error
unless_zero divisor result = if divisor == 0 then Err DivisionByZero else Ok result

-- 1 if a comparison holds, else 0
abbrev pub truth : Bool → ℤ
truth true = pos 1
truth false = pos 0

-- the result of an operation on the top (2.5.1.4)
abbrev pub of_top : ℕ → Operation → ℕ → Result ℤ Error
of_top n Abs v = Ok (pos (unsigned_abs (signed n v)))
of_top n Neg v = Ok (neg_ℤ (pos v))
of_top n Not v = Ok (pos (modulus n - 1 - v))
of_top n (PlusConstant value) v = Ok (pos (v + value))
of_top n operation v = Err UnsupportedEvaluation

-- the result of an operation on the two values on top: arithmetic and logic (2.5.1.4), and comparisons (2.5.1.5)
abbrev pub of_two : ℕ → Operation → ℕ → ℕ → Result ℤ Error
of_two n And left right = Ok (pos (bit_and left right))
of_two n Div left right = unless_zero right (int_div (signed n left) (signed n right))
of_two n Minus left right = Ok (pos left -ℤ pos right)
of_two n Mod left right = unless_zero right (pos (left % right))
of_two n Mul left right = Ok (pos (left * right))
of_two n Or left right = Ok (pos (bit_or left right))
of_two n Plus left right = Ok (pos (left + right))
of_two n Shl left right = Ok (pos (left * 2 ^ right))
of_two n Shr left right = Ok (pos (left / 2 ^ right))
of_two n Shra left right = Ok (shr_z (signed n left) (2 ^ right))
of_two n Xor left right = Ok (pos (bit_xor left right))
of_two n Eq left right = Ok (truth (left == right))
of_two n Ge left right = Ok (truth (int_le (signed n right) (signed n left)))
of_two n Gt left right = Ok (truth (int_lt (signed n right) (signed n left)))
of_two n Le left right = Ok (truth (int_le (signed n left) (signed n right)))
of_two n Lt left right = Ok (truth (int_lt (signed n left) (signed n right)))
of_two n Ne left right = Ok (truth (not (left == right)))
of_two n operation left right = Err UnsupportedEvaluation

-- the stack after an operation; an operation without a line of its own takes two values
abbrev pub stack_after : ℕ → Operation → List ℕ → Stack
stack_after n (Address address) stack = Err UnsupportedEvaluation
stack_after n (UnsignedConstant value) stack = stack_with n (pos value) stack
stack_after n (SignedConstant value) stack = stack_with n value stack
stack_after n (Pick index) stack = stack_with_copy index stack
stack_after n Drop stack = stack_without_top stack
stack_after n Swap stack = swapped_stack stack
stack_after n Rot stack = rotated_stack stack
stack_after n Abs stack = with_top n (of_top n Abs) stack
stack_after n Neg stack = with_top n (of_top n Neg) stack
stack_after n Not stack = with_top n (of_top n Not) stack
stack_after n (PlusConstant value) stack = with_top n (of_top n (PlusConstant value)) stack
stack_after n (Bra target) stack = stack_without_top stack
stack_after n (Skip target) stack = Ok stack
stack_after n (RegisterOffset register offset) stack = Ok stack
stack_after n Nop stack = Ok stack
stack_after n operation stack = with_two n (of_two n operation) stack

-- a stack fits the capacity, if there is one
abbrev pub has_room : Option ℕ → List ℕ → Bool
has_room (Some capacity) stack = nat_le (length stack) capacity
has_room None stack = true

-- a stack, if it fits the capacity
abbrev pub stack_within : Option ℕ → Stack → Stack
stack_within capacity expected = do
  stack ← expected
  _ ← requirement (has_room capacity stack) StackFull
  Ok stack
