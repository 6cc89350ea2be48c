-- The faults of a document, their order, and how checks are joined.
use Rattle.std.specs.Prelude.{ℕ, List, ◌++◌, codes, decimal, nat_le, if◌then◌else◌, Option, Some, None, Result, Ok, Err}
use Rattle.json_program.specs.declared.fault.FaultName.{FaultName}
use Rattle.json_program.specs.declared.fault.FaultName.TheVariants.{TooLong, NotJson, FloatNumber, BadDocument, BadCommand, BadNumber, BadHex, UnknownNumber}
use Rattle.json_program.specs.declared.fault.Fault.{Fault}
use Rattle.json_program.specs.declared.fault.DecodeError.{DecodeError}
use Rattle.json_program.specs.declared.fault.DecodeError.TheVariants as decode_error
use Rattle.std.specs.declared.alloc.AllocError.{AllocError}
use Rattle.std.specs.Allocator.{alloc_error}

-- the position of a fault in the order of the classes
abbrev pub class : FaultName → ℕ
class TooLong = 0
class NotJson = 1
class FloatNumber = 2
class BadDocument = 3
class BadCommand = 4
class BadNumber = 5
class BadHex = 6
class UnknownNumber = 7

-- of two faults of one unit the one that counts, which is the one of the first class
abbrev pub first_fault : FaultName → FaultName → FaultName
first_fault a b = if nat_le (class a) (class b) then a else b

-- the fault that counts, of those so far, if there is one, and one more
abbrev pub with_fault : Option FaultName → FaultName → Option FaultName
with_fault None b = Some b
with_fault (Some a) b = Some (first_fault a b)

-- a value, or the fault that there is in place of it
abbrev pub Checked : Type 0 → Type 0
Checked A = Result A FaultName

infixl 10 ◌⊛◌
-- the function at the value; of two faults the one that counts
abbrev pub ◌⊛◌ : {A B : Type 0} → Checked (A → B) → Checked A → Checked B
(Ok f) ⊛ (Ok x) = Ok (f x)
(Ok f) ⊛ (Err b) = Err b
(Err a) ⊛ (Ok x) = Err a
(Err a) ⊛ (Err b) = Err (first_fault a b)

-- the result of a unit's check: a fault gets the number of the unit
abbrev pub unit_answer : {A : Type 0} → ℕ → Result A (DecodeError FaultName) → Result A (DecodeError Fault)
unit_answer number (Ok value) = Ok value
unit_answer number (Err (decode_error.Fault name)) = Err (decode_error.Fault (record { name = name; number = number }))
unit_answer number (Err decode_error.OutOfMemory) = Err decode_error.OutOfMemory

-- a value, or the fault with the number of its unit
abbrev pub in_unit : {A : Type 0} → ℕ → Checked A → Result A Fault
in_unit n (Ok x) = Ok x
in_unit n (Err name) = Err (record { name = name; number = n })

-- a fault is kept to be compared with others, but running out of memory ends the check
abbrev pub keep_fault : {A : Type 0} → Result A (DecodeError FaultName) → Result (Checked A) AllocError
keep_fault (Ok value) = Ok (Ok value)
keep_fault (Err (decode_error.Fault name)) = Ok (Err name)
keep_fault (Err decode_error.OutOfMemory) = Err alloc_error

-- both values, or the fault that counts
abbrev pub both : {A B : Type 0} → Checked A → Checked B → Checked (A × B)
both a b = Ok (λ x y. (x, y)) ⊛ a ⊛ b

infixl 10 ◌>>=◌
-- a check that goes on with the value; the first error ends it
abbrev pub ◌>>=◌ : {A B E : Type 0} → Result A E → (A → Result B E) → Result B E
(Ok x) >>= f = f x
(Err a) >>= f = Err a

-- the name as a fault's line prints it
abbrev pub fault_name : FaultName → List ℕ
fault_name TooLong = codes "TooLong"
fault_name NotJson = codes "NotJson"
fault_name FloatNumber = codes "FloatNumber"
fault_name BadDocument = codes "BadDocument"
fault_name BadCommand = codes "BadCommand"
fault_name BadNumber = codes "BadNumber"
fault_name BadHex = codes "BadHex"
fault_name UnknownNumber = codes "UnknownNumber"

-- the line of a fault, without its line feed
abbrev pub fault_line : Fault → List ℕ
fault_line f = codes "fault " ++ fault_name f.name ++ codes " " ++ decimal f.number
