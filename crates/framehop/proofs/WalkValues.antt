-- The values of expressions keep to 64 bits.
use Rattle.std.proofs.Common.{◌≡◌, ℕ, zero, suc, ◌-◌, ◌^◌, ◌<◌, ◌≤◌, Bool, true, false, cond, List, [], ◌∷◌, length, Option, Some, None, Result, Ok, Err, refl, subst, arith}
use Rattle.std.specs.Prelude.{ℤ, pos, negsuc, ◌==◌, ◌||◌, ◌+ℤ◌, if◌then◌else◌, slice_get, unsigned_abs, option_and_then}
use Rattle.std.specs.Int.{int_rem_euclid}
use Rattle.std.specs.Option.{ok_or}
use Rattle.std.proofs.Math.Nat.{mod-lt}
use Rattle.std.proofs.lemmas.Bool.{eqb-true}
use Rattle.dwarf_constants.specs.declared.common.Register.{Register}
use Rattle.dwarf_constants.specs.declared.error.Error.{Error}
use Rattle.dwarf_constants.specs.declared.error.Error.TheVariants.{NotEnoughStackItems, StackFull, TooManyIterations}
use Rattle.dwarf_readers.specs.InitialLength.{is_size}
use Rattle.dwarf_readers.specs.Stretch.{Stretch, ◌>>=◌, behind, requirement}
use Rattle.dwarf_expressions.specs.Effects.{Stack, stack_with, stack_without_top, swapped_stack, rotated_stack, with_top, with_two, of_top, of_two, stack_after, has_room, stack_within}
use Rattle.dwarf_expressions.specs.Evaluation.{StackMachine, EvaluationInput, EvaluationState, Ready, Asking, Finished, Refused, state_behind, branch_of, offset_by, machine_after, machine_with, state_by_operation, last_step, operation_step, step, run_within, run, state_reached, state_reached_with, first_machine, operations_left}
use Rattle.dwarf_operations.specs.Operations.{operation_at}
use Rattle.dwarf_expressions.specs.Values.{modulus, value_of}
use Rattle.dwarf_operations.specs.declared.op.Operation.{Operation}
use Rattle.dwarf_operations.specs.declared.op.Operation.TheVariants.{Address, UnsignedConstant, SignedConstant, Pick, Drop, Swap, Rot, Abs, Neg, Not, PlusConstant, Bra, Skip, RegisterOffset, Nop}
use Rattle.framehop_rows.specs.ExpressionValue.{RegisterValues, value_within, value_by_requests, expression_program, expression_value}

-- ---- one value

-- a remainder is below its divisor
remainder-fits : (m : ℕ) (z : ℤ) → 0 < m → m ≤ 2 ^ 64 → unsigned_abs (int_rem_euclid z (pos m)) < 2 ^ 64
remainder-fits m (pos a) some fits = omega (arith, mod-lt a {m = m} some)
remainder-fits m (negsuc a) some fits = omega arith

-- the values of an address's size keep to 64 bits
value-fits : (n : ℕ) → is_size n ≡ true → (z : ℤ) → value_of n z < 2 ^ 64
value-fits n is z = sized (n == 1) (n == 2) (n == 4) (n == 8) refl refl refl refl is
  where
    at : (k : ℕ) → n ≡ k → 0 < modulus k → modulus k ≤ 2 ^ 64 → value_of n z < 2 ^ 64
    at k same some fits = rw same (remainder-fits (modulus k) z some fits)

    sized : (a b c d : Bool) → (n == 1) ≡ a → (n == 2) ≡ b → (n == 4) ≡ c → (n == 8) ≡ d → (a || b || c || d) ≡ true → value_of n z < 2 ^ 64
    sized true b c d p q r s h = at 1 (eqb-true n 1 p) (omega arith) (omega arith)
    sized false true c d p q r s h = at 2 (eqb-true n 2 q) (omega arith) (omega arith)
    sized false false true d p q r s h = at 4 (eqb-true n 4 r) (omega arith) (omega arith)
    sized false false false true p q r s h = at 8 (eqb-true n 8 s) (omega arith) (omega arith)
    sized false false false false p q r s h = cc

-- ---- stacks

-- each value keeps to 64 bits
abbrev Small : List ℕ → Type 0
Small [] = Unit {0}
Small (value ∷ rest) = (value < 2 ^ 64) × Small rest

abbrev SmallStack : Stack → Type 0
SmallStack (Ok stack) = Small stack
SmallStack (Err e) = Unit {0}

copied : (stack : List ℕ) (o : Option ℕ) → Small stack → ((value : ℕ) → o ≡ Some value → value < 2 ^ 64) → SmallStack (ok_or o NotEnoughStackItems >>= λ value. Ok (value ∷ stack))
copied stack (Some value) h fits = (fits value refl, h)
copied stack None h fits = tt

picked : (stack : List ℕ) (index : ℕ) → Small stack → (value : ℕ) → slice_get stack index ≡ Some value → value < 2 ^ 64
picked [] index h value is = cc
picked (top ∷ rest) zero h value is = let same : top ≡ value = cc in subst (λ (v : ℕ). v < 2 ^ 64) same h.0
picked (top ∷ rest) (suc index) h value is = picked rest index h.1 value is

dropped : (stack : List ℕ) → Small stack → SmallStack (stack_without_top stack)
dropped (top ∷ rest) h = h.1
dropped [] h = tt

swapped : (stack : List ℕ) → Small stack → SmallStack (swapped_stack stack)
swapped (top ∷ second ∷ rest) h = (h.1.0, (h.0, h.1.1))
swapped (top ∷ []) h = tt
swapped [] h = tt

rotated : (stack : List ℕ) → Small stack → SmallStack (rotated_stack stack)
rotated (top ∷ second ∷ third ∷ rest) h = (h.1.0, (h.1.1.0, (h.0, h.1.1.1)))
rotated (top ∷ second ∷ []) h = tt
rotated (top ∷ []) h = tt
rotated [] h = tt

module _ (n : ℕ) (fits : (z : ℤ) → value_of n z < 2 ^ 64) where
  pushed : (r : Result ℤ Error) (rest : List ℕ) → Small rest → SmallStack (r >>= λ result. stack_with n result rest)
  pushed (Ok z) rest h = (fits z, h)
  pushed (Err e) rest h = tt

  of-top : (operation : Operation) (stack : List ℕ) → Small stack → SmallStack (with_top n (of_top n operation) stack)
  of-top operation (top ∷ rest) h = pushed (of_top n operation top) rest h.1
  of-top operation [] h = tt

  of-two : (operation : Operation) (stack : List ℕ) → Small stack → SmallStack (with_two n (of_two n operation) stack)
  of-two operation (right ∷ left ∷ rest) h = pushed (of_two n operation left right) rest h.1.1
  of-two operation (right ∷ []) h = tt
  of-two operation [] h = tt

  left-by : (operation : Operation) (stack : List ℕ) → Small stack → SmallStack (stack_after n operation stack)
  left-by (Address address) stack h = tt
  left-by (UnsignedConstant value) stack h = (fits (pos value), h)
  left-by (SignedConstant value) stack h = (fits value, h)
  left-by (Pick index) stack h = copied stack (slice_get stack index) h (picked stack index h)
  left-by Drop stack h = dropped stack h
  left-by Swap stack h = swapped stack h
  left-by Rot stack h = rotated stack h
  left-by Abs stack h = of-top Abs stack h
  left-by Neg stack h = of-top Neg stack h
  left-by Not stack h = of-top Not stack h
  left-by (PlusConstant value) stack h = of-top (PlusConstant value) stack h
  left-by (Bra target) stack h = dropped stack h
  left-by (Skip target) stack h = h
  left-by (RegisterOffset register offset) stack h = h
  left-by Nop stack h = h
  left-by operation stack h = of-two operation stack h

with-room : (capacity : Option ℕ) (expected : Stack) → SmallStack expected → SmallStack (stack_within capacity expected)
with-room capacity (Ok stack) h = by (requirement (has_room capacity stack) StackFull)
  where
    by : {A : Type 0} (r : Result A Error) → SmallStack (r >>= λ _. Ok stack)
    by (Ok room) = h
    by (Err e) = tt
with-room capacity (Err e) h = tt

-- ---- machines

abbrev SmallState : EvaluationState → Type 0
SmallState (Ready m) = Small m.stack
SmallState (Asking register offset m) = Small m.stack
SmallState (Finished value) = value < 2 ^ 64
SmallState (Refused e) = Unit {0}

abbrev SmallStep : Result EvaluationState Error → Type 0
SmallStep (Ok state) = SmallState state
SmallStep (Err e) = Unit {0}

either : (b : Bool) (x y : Result EvaluationState Error) → SmallStep x → SmallStep y → SmallStep (cond b x y)
either true x y h k = h
either false x y h k = k

step-behind : {A : Type 0} (first : Result A Error) (next : A → Result EvaluationState Error) → ((x : A) → SmallStep (next x)) → SmallStep (first >>= next)
step-behind (Ok x) next k = k x
step-behind (Err e) next k = tt

ended : (stack : List ℕ) → Small stack → SmallStep (last_step stack)
ended (top ∷ rest) h = h.0
ended [] h = tt

module _ (p : EvaluationInput) (sized : is_size p.address_size ≡ true) where
  changed : (m : StackMachine) (operation : Operation) → Small m.stack → SmallStep (machine_after p m operation >>= λ next. Ok (Ready next))
  changed m operation h =
      let stack = stack_within p.capacity (stack_after p.address_size operation m.stack) in
      let small = with-room p.capacity (stack_after p.address_size operation m.stack) (left-by p.address_size (value-fits p.address_size sized) operation m.stack h) in
      by stack small (offset_by (length p.expression.bytes) m.offset (branch_of operation m.stack))
    where
      by : (stack : Stack) → SmallStack stack → (place : Result ℕ Error)
          → SmallStep ((stack >>= λ values. place >>= λ at. Ok (let next : StackMachine = record { stack = values; offset = at; left = m.left } in next)) >>= λ next. Ok (Ready next))
      by (Ok values) h (Ok at) = h
      by (Ok values) h (Err e) = tt
      by (Err e) h place = tt

  performed : (m : StackMachine) (operation : Operation) → Small m.stack → SmallStep (state_by_operation p m operation)
  performed m (RegisterOffset register offset) h = h
  performed m operation h = changed m operation h

  stepped : (m : StackMachine) → Small m.stack → SmallStep (step p m)
  stepped m h =
      either (m.offset == length p.expression.bytes) (last_step m.stack) (operation_step p m) (ended m.stack h)
      (either (m.left == 0) (Err TooManyIterations) _ tt
      (step-behind (operation_at p.address_size (behind m.offset p.expression)) _
      (λ operation. performed (record { stack = m.stack; offset = operation.1.offset - p.expression.offset; left = m.left - 1 }) operation.0 h)))

  behind-step : (go_on : StackMachine → EvaluationState) → ((m : StackMachine) → Small m.stack → SmallState (go_on m)) → (s : Result EvaluationState Error) → SmallStep s → SmallState (state_behind go_on s)
  behind-step go_on later (Ok (Ready m)) h = later m h
  behind-step go_on later (Ok (Asking register offset m)) h = h
  behind-step go_on later (Ok (Finished value)) h = h
  behind-step go_on later (Ok (Refused e)) h = tt
  behind-step go_on later (Err e) h = tt

  few-steps : (n : ℕ) (m : StackMachine) → Small m.stack → SmallState (run_within n p m)
  few-steps zero m h = h
  few-steps (suc n) m h = behind-step (run_within n p) (few-steps n) (step p m) (stepped m h)

  ran : (m : StackMachine) → Small m.stack → SmallState (run p m)
  unfolding run
  ran m h = few-steps (suc m.left) m h

  resumed : (value : ℕ) (register : Register) (offset : ℤ) (m : StackMachine) → Small m.stack → SmallState (state_reached_with p value (Asking register offset m))
  resumed value register offset m h =
      behind-step (run p) ran (machine_with p value offset m >>= λ next. Ok (Ready next))
      (by (stack_within p.capacity (stack_with p.address_size (pos value +ℤ offset) m.stack))
      (with-room p.capacity (stack_with p.address_size (pos value +ℤ offset) m.stack) (value-fits p.address_size sized (pos value +ℤ offset), h)))
    where
      by : (stack : Stack) → SmallStack stack
          → SmallStep ((stack >>= λ values. Ok (let next : StackMachine = record { stack = values; offset = m.offset; left = m.left } in next)) >>= λ next. Ok (Ready next))
      by (Ok values) h = h
      by (Err e) h = tt

  -- ---- expressions

  within-fits : (n : ℕ) (registers : RegisterValues) (state : EvaluationState) → SmallState state → (value : ℕ) → value_within n p registers state ≡ Some value → value < 2 ^ 64
  within-fits n registers (Ready m) h value is = cc
  within-fits n registers (Finished found) h value is = let same : found ≡ value = cc in subst (λ (v : ℕ). v < 2 ^ 64) same h
  within-fits n registers (Refused e) h value is = cc
  within-fits zero registers (Asking register offset m) h value is = cc
  within-fits (suc n) registers (Asking register offset m) h value is =
      by (registers register) (λ found. within-fits n registers (state_reached_with p found (Asking register offset m)) (resumed found register offset m h) value) is
    where
      by : (o : Option ℕ) → ((found : ℕ) → value_within n p registers (state_reached_with p found (Asking register offset m)) ≡ Some value → value < 2 ^ 64) → option_and_then (λ found. value_within n p registers (state_reached_with p found (Asking register offset m))) o ≡ Some value → value < 2 ^ 64
      by (Some found) again is = again found is
      by None again is = cc

-- the value of an expression keeps to 64 bits
pub expression-fits : (limit : Option ℕ) (size : ℕ) (registers : RegisterValues) (bytes : Result Stretch Error) (value : ℕ) → expression_value limit size registers bytes ≡ Some value → value < 2 ^ 64
expression-fits limit size registers (Err e) value is = cc
expression-fits limit size registers (Ok bytes) value is = by (is_size size) refl is
  where
    by : (b : Bool) → is_size size ≡ b → (if b then value_by_requests (expression_program limit size bytes) registers (state_reached (expression_program limit size bytes) (Ready first_machine)) else None) ≡ Some value → value < 2 ^ 64
    by true sized is =
        let p = expression_program limit size bytes in
        within-fits p sized (suc (operations_left (run p first_machine))) registers (run p first_machine) (ran p sized first_machine tt) value is
    by false sized is = cc
