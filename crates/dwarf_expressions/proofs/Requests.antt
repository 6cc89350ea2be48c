-- Of steps and runs: once a register is asked for, fewer operations are left, and no error is that there is no memory.
use Rattle.std.proofs.Common.{◌≡◌, ◌∙◌, inl, inr, ℕ, zero, suc, ◌-◌, ◌<◌, Bool, true, false, cond, ℤ, pos, negsuc, List, [], ◌∷◌, length, take, Option, Some, None, Result, Ok, Err, refl, sym, ap, subst, arith}
use Rattle.std.specs.Prelude.{◌==◌, ◌+◌, ◌+ℤ◌, ◌%◌, ◌^◌, if◌then◌else◌, nat_le, nat_lt, slice_get}
use Rattle.std.specs.Int.{w16, w32, w64}
use Rattle.std.specs.Option.{ok_or}
use Rattle.list_laws.proofs.Laws.{by_case}
use Rattle.dwarf_constants.specs.declared.constants.DwOp.{DwOp}
use Rattle.dwarf_constants.specs.declared.constants.TheConstants.{DW_OP_lit0, DW_OP_lit31, DW_OP_breg0, DW_OP_breg31}
use Rattle.dwarf_constants.specs.declared.common.Register.{Register}
use Rattle.dwarf_constants.specs.declared.error.Error.{Error}
use Rattle.dwarf_constants.specs.declared.error.Error.TheVariants.{BadSignedLeb128, BadUnsignedLeb128, BadBranchTarget, DivisionByZero, NotEnoughStackItems, OutOfMemory, StackFull, TooManyIterations, UnsupportedAddressSize, UnsupportedEvaluation}
use Rattle.dwarf_readers.specs.InitialLength.{address_at, is_size}
use Rattle.dwarf_readers.specs.Leb128.{leb128_within, signed_at, signed_in_range, string_of, unsigned_16_at, unsigned_at, unsigned_below, value_behind}
use Rattle.dwarf_readers.specs.Operands.{Parse, look_up, one}
use Rattle.dwarf_readers.specs.Stretch.{Stretch, ◌>>=◌, behind, byte_at, ends_at, number_at, requirement, signed_byte_at, signed_number_at}
use Rattle.dwarf_operations.specs.declared.op.Operation.{Operation}
use Rattle.dwarf_operations.specs.declared.op.Operation.TheVariants.{Address, UnsignedConstant, SignedConstant, Pick, Drop, Swap, Rot, Abs, Div, Mod, Neg, Not, PlusConstant, Bra, Skip, RegisterOffset, Nop}
use Rattle.dwarf_expressions.specs.Effects.{Stack, stack_without_top, has_room, of_top, of_two, stack_with, rotated_stack, stack_after, swapped_stack, unless_zero, with_top, with_two, stack_within}
use Rattle.dwarf_expressions.specs.Evaluation.{StackMachine, EvaluationInput, EvaluationState, Ready, Asking, Finished, Refused, state_behind, branch_of, machine_after, last_step, operation_step, operations_left, state_by_operation, offset_by, branch_target, run, run_within, step}
use Rattle.dwarf_expressions.specs.EvaluationViews.{IsReady, Stops, evaluation_state, stopped_state}
use Rattle.dwarf_expressions.specs.declared.evaluation.EvaluationState.{EvaluationState as StoredState}
use Rattle.dwarf_expressions.specs.declared.evaluation.EvaluationState.TheVariants as state
use Rattle.dwarf_expressions.specs.declared.machine.Stop.{Stop}
use Rattle.dwarf_expressions.specs.declared.machine.Stop.TheVariants as stop
use Rattle.dwarf_operations.specs.Operations.{is_between, listed_operation, offset_of, operation_at, register_and_offset, operation_by, with_operands, without_operands, opcode_number}

-- it doesn't fail because there is no memory
pub record HasMemory {A : Type 0} (answer : Result A Error) : Type 0 where
  pub never : answer ≡ Err OutOfMemory → ⊥

given : {A : Type 0} (x : A) → HasMemory {A = A} (Ok x)
given x = record { never = λ h. cc }

refused : {A : Type 0} (e : Error) → (e ≡ OutOfMemory → ⊥) → HasMemory {A = A} (Err e)
refused e other = record { never = λ h. other (cc) }

either : {A : Type 0} (b : Bool) (x y : Result A Error) → HasMemory x → HasMemory y → HasMemory (cond b x y)
either true x y h k = h
either false x y h k = k

behind_both : {A B : Type 0} (first : Result A Error) (next : A → Result B Error) → HasMemory first → ((x : A) → HasMemory (next x)) → HasMemory (first >>= next)
behind_both (Ok x) next h k = k x
behind_both (Err e) next h k = refused e (λ is. h.never (ap (λ (x : Error). Err x) is))

required : (b : Bool) (e : Error) → (e ≡ OutOfMemory → ⊥) → HasMemory (requirement b e)
required true e other = given tt
required false e other = refused e other

-- ---- reads

fixed_read : {A : Type 0} (n : ℕ) (s : Stretch) (x : A × Stretch) → HasMemory (if nat_lt (length s.bytes) n then Err (ends_at s.offset) else Ok x)
fixed_read n s x = either (nat_lt (length s.bytes) n) (Err (ends_at s.offset)) (Ok x) (refused (ends_at s.offset) (λ h. cc)) (given x)

value_read : {A : Type 0} (bad : Error) (string : List ℕ) (s : Stretch) (o : Option A) → (bad ≡ OutOfMemory → ⊥) → HasMemory (value_behind bad string s o)
value_read bad string s (Some value) other = given (value, behind (length string) s)
value_read bad string s None other = refused bad other

leb128_read : {A : Type 0} (n : ℕ) (bad : Error) (fitting : List ℕ → Option A) (s : Stretch) (o : Option (List ℕ)) → (bad ≡ OutOfMemory → ⊥) → HasMemory (leb128_within n bad fitting s o)
leb128_read n bad fitting s (Some string) other = value_read bad string s (fitting string) other
leb128_read n bad fitting s None other =
    let end : ℕ = s.offset + length s.bytes in
    either (nat_lt (length s.bytes) n) (Err (ends_at end)) (Err bad) (refused (ends_at end) (λ h. cc)) (refused bad other)

signed_read : (s : Stretch) → HasMemory (signed_at s)
signed_read s = leb128_read 10 BadSignedLeb128 signed_in_range s (string_of (take 10 s.bytes)) (λ h. cc)

unsigned_read : (s : Stretch) → HasMemory (unsigned_at s)
unsigned_read s = leb128_read 10 BadUnsignedLeb128 (unsigned_below 64) s (string_of (take 10 s.bytes)) (λ h. cc)

address_read : (size : ℕ) (s : Stretch) → HasMemory (address_at size s)
address_read size s =
    behind_both (requirement (is_size size) (UnsupportedAddressSize size)) (λ _. number_at size s) (required (is_size size) (UnsupportedAddressSize size) (λ h. cc)) (λ _. fixed_read size s _)

-- ---- operations

-- operands never fail because there is no memory
abbrev HaveMemory : Parse Operation → Type 0
HaveMemory operands = (s : Stretch) → HasMemory (operands s)

one_read : {A : Type 0} (operand : Parse A) (operation : A → Operation) → ((s : Stretch) → HasMemory (operand s)) → HaveMemory (one operand operation)
one_read operand operation h s = behind_both (operand s) (λ value. Ok (operation value.0, value.1)) (h s) (λ value. given (operation value.0, value.1))

offset_read : (register : ℕ) → HaveMemory (offset_of register)
offset_read register s = one_read signed_at (RegisterOffset (record { 0 = register })) signed_read s

register_read : HaveMemory register_and_offset
register_read s =
    behind_both (unsigned_16_at s) (λ register. offset_of register.0 register.1)
    (leb128_read 3 BadUnsignedLeb128 (unsigned_below 16) s (string_of (take 3 s.bytes)) (λ h. cc)) (λ register. offset_read register.0 register.1)

-- .. those of each row
abbrev AllHaveMemory : List (DwOp × Parse Operation) → Type 0
AllHaveMemory [] = Unit {0}
AllHaveMemory (row ∷ rows) = HaveMemory row.1 × AllHaveMemory rows

table_read : (size : ℕ) → AllHaveMemory (with_operands size)
table_read size =
    let bytes : (n : ℕ) → (operation : ℕ → Operation) → HaveMemory (one (number_at n) operation) = λ n operation. one_read (number_at n) operation (λ s. fixed_read n s _) in (
      one_read (address_at size) Address (address_read size),
      (
        one_read byte_at UnsignedConstant (λ s. fixed_read 1 s _),
        (
          one_read signed_byte_at SignedConstant (λ s. fixed_read 1 s _),
          (
            bytes 2 UnsignedConstant,
            (
              one_read (signed_number_at w16) SignedConstant (λ s. fixed_read 2 s _),
              (
                bytes 4 UnsignedConstant,
                (
                  one_read (signed_number_at w32) SignedConstant (λ s. fixed_read 4 s _),
                  (
                    bytes 8 UnsignedConstant,
                    (
                      one_read (signed_number_at w64) SignedConstant (λ s. fixed_read 8 s _),
                      (
                        one_read unsigned_at UnsignedConstant unsigned_read,
                        (
                          one_read signed_at SignedConstant signed_read,
                          (
                            one_read byte_at Pick (λ s. fixed_read 1 s _),
                            (
                              one_read unsigned_at PlusConstant unsigned_read,
                              (
                                one_read (signed_number_at w16) Bra (λ s. fixed_read 2 s _),
                                (
                                  one_read (signed_number_at w16) Skip (λ s. fixed_read 2 s _),
                                  (
                                    register_read,
                                    tt,
                                  ),
                                ),
                              ),
                            ),
                          ),
                        ),
                      ),
                    ),
                  ),
                ),
              ),
            ),
          ),
        ),
      ),
    )

module _ (opcode : ℕ) where
  plain_read : (o : Option Operation) (s : Stretch) → HasMemory (listed_operation None o s)
  plain_read (Some operation) s = given (operation, s)
  plain_read None s = refused UnsupportedEvaluation (λ h. cc)

  listed_read : (rows : List (DwOp × Parse Operation)) (plain : Option Operation) → AllHaveMemory rows → (s : Stretch) → HasMemory (listed_operation (look_up opcode_number opcode rows) plain s)
  listed_read [] plain h s = plain_read plain s
  listed_read (row ∷ rows) plain (first, others) s =
      by_case (opcode == row.0.0)
      (λ is. rw is (first s))
      (λ is. rw is (listed_read rows plain others s))

said_read : (size opcode : ℕ) → HaveMemory (operation_by size opcode)
said_read size opcode s =
    either (is_between DW_OP_lit0 DW_OP_lit31 opcode) _ _ (given _)
    (either (is_between DW_OP_breg0 DW_OP_breg31 opcode) _ _ (offset_read (opcode - DW_OP_breg0.0) s) (listed_read opcode (with_operands size) (look_up opcode_number opcode without_operands) (table_read size) s))

operation_read : (size : ℕ) → HaveMemory (operation_at size)
operation_read size s = behind_both (byte_at s) (λ opcode. operation_by size opcode.0 opcode.1) (fixed_read 1 s _) (λ opcode. said_read size opcode.0 opcode.1)

-- ---- stacks

picked_stack : (index : ℕ) (stack : List ℕ) (o : Option ℕ) → HasMemory (ok_or o NotEnoughStackItems >>= λ value. Ok (value ∷ stack))
picked_stack index stack (Some value) = given (value ∷ stack)
picked_stack index stack None = refused NotEnoughStackItems (λ h. cc)

dropped_stack : (stack : List ℕ) → HasMemory (stack_without_top stack)
dropped_stack (top ∷ rest) = given rest
dropped_stack [] = refused NotEnoughStackItems (λ h. cc)

swapped_is : (stack : List ℕ) → HasMemory (swapped_stack stack)
swapped_is (top ∷ second ∷ rest) = given (second ∷ top ∷ rest)
swapped_is stack = refused NotEnoughStackItems (λ h. cc)

rotated_is : (stack : List ℕ) → HasMemory (rotated_stack stack)
rotated_is (top ∷ second ∷ third ∷ rest) = given (second ∷ third ∷ top ∷ rest)
rotated_is stack = refused NotEnoughStackItems (λ h. cc)

quotient : (divisor : ℕ) (result : ℤ) → HasMemory (unless_zero divisor result)
quotient divisor result = either (divisor == 0) (Err DivisionByZero) (Ok result) (refused DivisionByZero (λ h. cc)) (given result)

top_effect : (n : ℕ) (operation : Operation) (v : ℕ) → HasMemory (of_top n operation v)
top_effect n Abs v = record { never = λ h. cc }
top_effect n operation v = record { never = λ h. cc }

two_effect : (n : ℕ) (operation : Operation) (left right : ℕ) → HasMemory (of_two n operation left right)
two_effect n Div left right = quotient right _
two_effect n Mod left right = quotient right _
two_effect n operation left right = record { never = λ h. cc }

top_stack : (n : ℕ) (operation : Operation) (stack : List ℕ) → HasMemory (with_top n (of_top n operation) stack)
top_stack n operation (top ∷ rest) = behind_both (of_top n operation top) (λ result. stack_with n result rest) (top_effect n operation top) (λ result. given _)
top_stack n operation [] = refused NotEnoughStackItems (λ h. cc)

two_stack : (n : ℕ) (operation : Operation) (stack : List ℕ) → HasMemory (with_two n (of_two n operation) stack)
two_stack n operation (right ∷ left ∷ rest) = behind_both (of_two n operation left right) (λ result. stack_with n result rest) (two_effect n operation left right) (λ result. given _)
two_stack n operation stack = refused NotEnoughStackItems (λ h. cc)

stack_effect : (n : ℕ) (operation : Operation) (stack : List ℕ) → HasMemory (stack_after n operation stack)
stack_effect n (Address address) stack = refused UnsupportedEvaluation (λ h. cc)
stack_effect n (UnsignedConstant value) stack = given _
stack_effect n (SignedConstant value) stack = given _
stack_effect n (Pick index) stack = picked_stack index stack (slice_get stack index)
stack_effect n Drop stack = dropped_stack stack
stack_effect n Swap stack = swapped_is stack
stack_effect n Rot stack = rotated_is stack
stack_effect n Abs stack = top_stack n Abs stack
stack_effect n Neg stack = top_stack n Neg stack
stack_effect n Not stack = top_stack n Not stack
stack_effect n (PlusConstant value) stack = top_stack n (PlusConstant value) stack
stack_effect n (Bra target) stack = dropped_stack stack
stack_effect n (Skip target) stack = given stack
stack_effect n (RegisterOffset register offset) stack = given stack
stack_effect n Nop stack = given stack
stack_effect n operation stack = two_stack n operation stack

room_found : (capacity : Option ℕ) (expected : Stack) → HasMemory expected → HasMemory (stack_within capacity expected)
room_found capacity expected h =
    behind_both expected _ h
    (λ stack. behind_both (requirement (has_room capacity stack) StackFull) (λ _. Ok stack) (required (has_room capacity stack) StackFull (λ h. cc)) (λ _. given stack))

-- ---- machines

target_found : (len : ℕ) (offset : ℤ) → HasMemory (branch_target len offset)
target_found len (pos offset) = either (nat_le offset len) (Ok offset) _ (given offset) (refused (BadBranchTarget (offset % 2 ^ 64)) (λ h. cc))
target_found len (negsuc before) = refused (BadBranchTarget (2 ^ 64 - 1 - before)) (λ h. cc)

branch_found : (len end : ℕ) (branch : Option ℤ) → HasMemory (offset_by len end branch)
branch_found len end (Some target) = target_found len (pos end +ℤ target)
branch_found len end None = given end

-- the outcome of a step: fewer operations are left than before, and no error is that there is no memory
abbrev IsStep : ℕ → Result EvaluationState Error → Type 0
IsStep left (Ok (Ready m)) = m.left < left
IsStep left (Ok (Asking register offset m)) = m.left < left
IsStep left (Ok (Finished value)) = Unit {0}
IsStep left (Ok (Refused e)) = ⊥
IsStep left (Err e) = e ≡ OutOfMemory → ⊥

step_behind : {A : Type 0} (left : ℕ) (first : Result A Error) (next : A → Result EvaluationState Error) → HasMemory first → ((x : A) → IsStep left (next x)) → IsStep left (first >>= next)
step_behind left (Ok x) next h k = k x
step_behind left (Err e) next h k = λ is. h.never (ap (λ (x : Error). Err x) is)

either_step : (left : ℕ) (b : Bool) (x y : Result EvaluationState Error) → (b ≡ true → IsStep left x) → (b ≡ false → IsStep left y) → IsStep left (cond b x y)
either_step left true x y h k = h refl
either_step left false x y h k = k refl

change_step : (p : EvaluationInput) (m : StackMachine) (left : ℕ) (operation : Operation) → m.left < left → IsStep left (machine_after p m operation >>= λ next. Ok (Ready next))
change_step p m left operation less =
    let stack = stack_within p.capacity (stack_after p.address_size operation m.stack) in
    let offset = offset_by (length p.expression.bytes) m.offset (branch_of operation m.stack) in
    step_two stack (room_found p.capacity _ (stack_effect p.address_size operation m.stack)) offset (branch_found _ m.offset (branch_of operation m.stack))
  where
    step_two : (stack : Stack) → HasMemory stack → (offset : Result ℕ Error) → HasMemory offset
        → IsStep left ((stack >>= λ values. offset >>= λ at. Ok (let next : StackMachine = record { stack = values; offset = at; left = m.left } in next)) >>= λ next. Ok (Ready next))
    step_two (Ok values) h (Ok at) k = less
    step_two (Ok values) h (Err e) k = λ is. k.never (ap (λ (x : Error). Err x) is)
    step_two (Err e) h offset k = λ is. h.never (ap (λ (x : Error). Err x) is)

perform_step : (p : EvaluationInput) (m : StackMachine) (left : ℕ) (operation : Operation) → m.left < left → IsStep left (state_by_operation p m operation)
perform_step p m left (RegisterOffset register offset) less = less
perform_step p m left operation less = change_step p m left operation less

end_step : (left : ℕ) (stack : List ℕ) → IsStep left (last_step stack)
end_step left (top ∷ rest) = tt
end_step left [] = λ h. cc

one_step : (p : EvaluationInput) (m : StackMachine) → IsStep m.left (step p m)
one_step p m =
    either_step m.left (m.offset == length p.expression.bytes) (last_step m.stack) (operation_step p m) (λ _. end_step m.left m.stack)
    (λ _. either_step m.left (m.left == 0) (Err TooManyIterations) _ (λ _ h. cc)
    (λ some. let less : m.left - 1 < m.left = grind arith in
    step_behind m.left (operation_at p.address_size (behind m.offset p.expression)) _ (operation_read p.address_size (behind m.offset p.expression))
    (λ operation. perform_step p (record { stack = m.stack; offset = operation.1.offset - p.expression.offset; left = m.left - 1 }) m.left operation.0 less)))

-- ---- runs

-- the outcome of a run: if a register is asked for, fewer operations are left than before, and no error is that there is no memory
abbrev pub IsRun : ℕ → EvaluationState → Type 0
IsRun left (Ready m) = Unit {0}
IsRun left (Asking register offset m) = m.left < left
IsRun left (Finished value) = Unit {0}
IsRun left (Refused e) = e ≡ OutOfMemory → ⊥

longer_run : (less left : ℕ) (state : EvaluationState) → less < left → IsRun less state → IsRun left state
longer_run less left (Ready m) below h = tt
longer_run less left (Asking register offset m) below h = omega arith
longer_run less left (Finished value) below h = tt
longer_run less left (Refused e) below h = h

few_steps : (n : ℕ) (p : EvaluationInput) (m : StackMachine) → IsRun m.left (run_within n p m)
few_steps zero p m = tt
few_steps (suc n) p m = on (λ next. few_steps n p next) (step p m) (one_step p m)
  where
    on : ((next : StackMachine) → IsRun next.left (run_within n p next)) → (s : Result EvaluationState Error) → IsStep m.left s → IsRun m.left (state_behind (run_within n p) s)
    on later (Ok (Ready next)) h = longer_run next.left m.left (run_within n p next) h (later next)
    on later (Ok (Asking register offset next)) h = h
    on later (Ok (Finished value)) h = tt
    on later (Ok (Refused e)) h = absurd h
    on later (Err e) h = h

pub run_is : (p : EvaluationInput) (m : StackMachine) → IsRun m.left (run p m)
unfolding run
run_is p m = few_steps (suc m.left) p m

-- if a machine stopped and asks for a register, fewer operations are left than before
pub asks_fewer : (capacity : Option ℕ) (p : EvaluationInput) (m next : StackMachine) (s : Stop) (register : Register) (offset : ℤ) → Stops capacity (run p m) (Ok s) next → s ≡ stop.Asking register offset → next.left < m.left
asks_fewer capacity p m next s register offset stops is =
    let asks : run p m ≡ Asking register offset next = stops ∙ ap (λ (x : Stop). stopped_state x next) is in
    let P : EvaluationState → Type 0 = IsRun m.left in subst P asks (run_is p m)

-- if a machine failed because there was no memory, its stack grows
pub refused_grows : {A : Type 0} (capacity : Option ℕ) (p : EvaluationInput) (m next : StackMachine) (e : Error) (answer : Result A Error) → Stops capacity (run p m) (Err e) next → answer ≡ Err e → answer ≡ Err OutOfMemory → capacity ≡ None
refused_grows {A} capacity p m next e answer (inl stops) is memory =
    let same : ◌≡◌ {A = Result A Error} (Err e) (Err OutOfMemory) = sym is ∙ memory in
    let wanted : e ≡ OutOfMemory = cc in
    let P : EvaluationState → Type 0 = IsRun m.left in absurd (subst P stops (run_is p m) wanted)
refused_grows capacity p m next e answer (inr grows) is memory = grows.0

-- what is left of an evaluation that can go on is its machine's
pub ready_left : (kept : StoredState) (m : StackMachine) → IsReady (evaluation_state kept m) → operations_left (evaluation_state kept m) ≡ m.left
ready_left state.Ready m h = refl
ready_left (state.Asking register offset) m h = absurd h
ready_left (state.Finished value) m h = absurd h
ready_left (state.Refused e) m h = absurd h
