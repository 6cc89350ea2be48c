-- Results of calls, as the values that they have.
use Rattle.std.specs.Prelude.{◌≡◌, Result, Ok, Err, IsErrAnd}
use Rattle.json_program.specs.declared.fault.FaultName.{FaultName}
use Rattle.json_program.specs.declared.fault.DecodeError.{DecodeError}
use Rattle.json_program.specs.declared.fault.DecodeError.TheVariants as decode_error
use Rattle.json_program.specs.Faults.{Checked, both}

-- a function of the value, or the error as it is
abbrev pub result_map : {A B E : Type 0} → (A → B) → Result A E → Result B E
result_map f (Ok x) = Ok (f x)
result_map f (Err e) = Err e

-- what the check of one unit returns: a value, its fault, or that memory ran out
abbrev pub Answer : Type 0 → Type 0
Answer A = Result A (DecodeError FaultName)

-- a check was ended by this fault
abbrev pub EndedBy : {A : Type 0} → Answer A → FaultName → Type 0
EndedBy answer name = IsErrAnd answer (λ given. given ≡ decode_error.Fault name)

-- a result decodes to a value if its view is that value, and to a fault if it has that fault; if memory ran out, it says nothing
abbrev pub Decodes : {A B F : Type 0} → (A → B) → Result A (DecodeError F) → Result B F → Type 0
Decodes view (Ok value) decoded = decoded ≡ Ok (view value)
Decodes view (Err (decode_error.Fault fault)) decoded = decoded ≡ Err fault
Decodes view (Err decode_error.OutOfMemory) decoded = Unit {0}

-- A check, how its value is seen, and what it decodes to.
pub record Decoding (A B F : Type 0) : Type 0 where
  pub view : A → B
  pub answer : Result A (DecodeError F)
  pub decoded : Result B F
  pub decodes : Decodes view answer decoded

-- both checks failed, with one error
abbrev pub FailAlike : {A F : Type 0} → Result A (DecodeError F) → Result A (DecodeError F) → Type 0
FailAlike one other = IsErrAnd one (λ error. other ≡ Err error)

-- A check of a value, and how the value is seen.
pub record Viewed (A B : Type 0) : Type 0 where
  pub view : A → B
  pub checked : Checked A

-- the check, with its value as it is seen
abbrev pub seen : {A B : Type 0} → Viewed A B → Checked B
seen v = result_map v.view v.checked

-- one more field: the fields before it are seen as a function, which takes what is seen of this one
abbrev pub with_field : {A B C X : Type 0} → Viewed X (A → B) → Viewed C A → Viewed (X × C) B
with_field fields last = record { view = λ p. fields.view p.0 (last.view p.1); checked = both fields.checked last.checked }
