-- The outcome of executing an unwind rule, on any architecture.
use Rattle.std.specs.Prelude.{ℕ, ◌≡◌, ◌^◌, ℤ, pos, negsuc, nat_lt, if◌then◌else◌, List, [], Option, Some, None, Result, Ok, Err, OnErr}
use Rattle.framehop_registers.specs.Callback.{Words}
use Rattle.framehop_registers.specs.declared.error.Error.{Error}
use Rattle.framehop_registers.specs.declared.error.Error.TheVariants.{CouldNotReadStack, FramepointerUnwindingMovedBackwards, DidNotAdvance, IntegerOverflow, ReturnAddressIsNull, OutOfMemory}

-- The outcome of a rule, or of a part of one: the end of the stack, an error, or a value.
pub data Outcome (A : Type 0) : Type 0 where
  Ends : Outcome A
  Refuses : Error → Outcome A
  Answers : A → Outcome A

-- The first part, then the second with the value that the first gave.
abbrev pub and_then : {A B : Type 0} → Outcome A → (A → Outcome B) → Outcome B
and_then Ends next = Ends
and_then (Refuses error) next = Refuses error
and_then (Answers value) next = next value

-- The addresses that are read after a part of a rule: none, unless that part gives a value.
abbrev pub if_answered : {A : Type 0} → Outcome A → (A → List ℕ) → List ℕ
if_answered Ends reads = []
if_answered (Refuses error) reads = []
if_answered (Answers value) reads = reads value

-- An address from 0 to 2^64 - 1; any other number is an overflow.
abbrev pub address : ℤ → Outcome ℕ
address (pos a) = if nat_lt a (2 ^ 64) then Answers a else Refuses IntegerOverflow
address (negsuc a) = Refuses IntegerOverflow

-- The word at an address, which has to be readable.
abbrev pub word : Words → ℕ → Outcome ℕ
word words at = elim (words at) [ Some value ↦ Answers value | None ↦ Refuses (CouldNotReadStack at) ]

-- The caller of a frame: the return address, and the registers there.
pub record Caller (Registers : Type 0) : Type 0 where
  pub return_address : ℕ
  pub registers : Registers

-- What `exec` returns: `None` at the end of the stack, the error, or the return address.
abbrev pub answer_of_outcome : {Registers : Type 0} → Outcome (Caller Registers) → Result (Option ℕ) Error
answer_of_outcome Ends = Ok None
answer_of_outcome (Refuses error) = Err error
answer_of_outcome (Answers caller) = Ok (Some caller.return_address)

-- The registers that `exec` leaves: the caller's, or those from before if there is none.
abbrev pub registers_after : {Registers : Type 0} → Registers → Outcome (Caller Registers) → Registers
registers_after before Ends = before
registers_after before (Refuses error) = before
registers_after before (Answers caller) = caller.registers

-- A step of an outcome: its answer, and the registers that it leaves.
pub record IsStep {Registers : Type 0} (result : Result (Option ℕ) Error) (old new : Registers)
    (outcome : Outcome (Caller Registers)) : Type 0 where
  pub answer : result ≡ answer_of_outcome outcome
  pub registers : new ≡ registers_after old outcome

-- The registers change only if a return address is answered.
pub record StaysUnlessAnswered {Registers : Type 0} (result : Result (Option ℕ) Error) (old new : Registers) : Type 0 where
  pub none : result ≡ Ok None → new ≡ old
  pub error : OnErr result (new ≡ old)

-- The outcome of a part of a rule, from what the code returns for it.
abbrev pub outcome_of : {A : Type 0} → Result A Error → Outcome A
outcome_of (Ok value) = Answers value
outcome_of (Err error) = Refuses error

-- The outcome of a part of a rule, from what the code returns if it may return the end of the stack.
abbrev pub outcome_or_end_of : {A : Type 0} → Result (Option A) Error → Outcome A
outcome_or_end_of (Ok None) = Ends
outcome_or_end_of (Ok (Some value)) = Answers value
outcome_or_end_of (Err error) = Refuses error

-- An error of a rule.
abbrev pub IsOfRule : Error → Type 0
IsOfRule (CouldNotReadStack address) = Unit {0}
IsOfRule FramepointerUnwindingMovedBackwards = Unit {0}
IsOfRule DidNotAdvance = Unit {0}
IsOfRule IntegerOverflow = Unit {0}
IsOfRule ReturnAddressIsNull = ⊥
IsOfRule OutOfMemory = ⊥
