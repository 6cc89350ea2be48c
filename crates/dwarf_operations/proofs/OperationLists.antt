-- The list of operations, one read after the other.
use Rattle.std.proofs.Common.{◌≡◌, ℕ, ◌-◌, true, false, length, List, [], ◌∷◌, Option, Some, None, Result, Ok, refl, ap, arith}
use Rattle.std.specs.Prelude.{◌==◌}
use Rattle.std.specs.Int.{w16, w32, w64}
use Rattle.list_laws.specs.Items.{GivesNext, LeavesNone, Shrinks, step_taken}
use Rattle.list_laws.proofs.Laws.{by_case, gives-next}
use Rattle.dwarf_constants.specs.declared.constants.DwOp.{DwOp}
use Rattle.dwarf_constants.specs.declared.constants.TheConstants.{DW_OP_lit0, DW_OP_lit31, DW_OP_breg0, DW_OP_breg31}
use Rattle.dwarf_constants.specs.declared.error.Error.{Error}
use Rattle.dwarf_readers.specs.InitialLength.{address_at}
use Rattle.dwarf_readers.specs.Leb128.{signed_at, unsigned_at}
use Rattle.dwarf_readers.specs.Operands.{Parse, look_up, one}
use Rattle.dwarf_readers.specs.Stretch.{Stretch, ◌>>=◌, byte_at, number_at, signed_byte_at, signed_number_at}
use Rattle.dwarf_readers.specs.Remainder.{Takes, item_at, size_of}
use Rattle.dwarf_readers.proofs.Laws.{address_takes, byte_takes, item_takes, items_shrink, leaves_err, leaves_from, leaves_if, leaves_ok, leaves_then, number_takes, signed_byte_takes, signed_number_takes, signed_takes, unsigned_takes, unsigned_16_takes}
use Rattle.dwarf_operations.specs.declared.op.Operation.{Operation}
use Rattle.dwarf_operations.specs.declared.op.Operation.TheVariants.{Address, UnsignedConstant, SignedConstant, Pick, PlusConstant, Bra, Skip}
use Rattle.dwarf_operations.specs.Operations.{offset_of, register_and_offset, with_operands, without_operands, listed_operation, is_between, operation_by, operation_at, operations_of, opcode_number}

-- operands leave no more than there was
pub record GoOn (operands : Parse Operation) : Type 0 where
  pub takes : (s : Stretch) → Takes 0 s (operands s)

one_goes_on : {A : Type 0} (n : ℕ) (operand : Parse A) (operation : A → Operation) → ((s : Stretch) → Takes n s (operand s)) → GoOn (one operand operation)
one_goes_on n operand operation takes = record { takes = λ s. leaves_then (takes s) (λ value le. leaves_ok (omega arith)) }

offset_goes_on : (register : ℕ) → GoOn (offset_of register)
offset_goes_on register = record { takes = λ s. leaves_then (signed_takes s) (λ value le. leaves_ok (omega arith)) }

register_goes_on : GoOn register_and_offset
register_goes_on = record { takes = λ s. leaves_then (unsigned_16_takes s) (λ register le. leaves_from {m = 0} ((offset_goes_on register.0).takes register.1) (omega arith)) }

-- .. of each row
pub data AllGoOn : List (DwOp × Parse Operation) → Type 0 where
  no_rows : AllGoOn []
  one_more : (code : DwOp) (operands : Parse Operation) (rows : List (DwOp × Parse Operation)) → GoOn operands → AllGoOn rows → AllGoOn ((code, operands) ∷ rows)

and_then : {code : DwOp} {operands : Parse Operation} {rows : List (DwOp × Parse Operation)} → GoOn operands → AllGoOn rows → AllGoOn ((code, operands) ∷ rows)
and_then {code} {operands} {rows} first others = one_more code operands rows first others

table_goes_on : (size : ℕ) → AllGoOn (with_operands size)
table_goes_on size =
    and_then (one_goes_on size (address_at size) Address (address_takes size))
    (and_then (one_goes_on 1 byte_at UnsignedConstant byte_takes)
    (and_then (one_goes_on 1 signed_byte_at SignedConstant signed_byte_takes)
    (and_then (one_goes_on 2 (number_at 2) UnsignedConstant (number_takes 2))
    (and_then (one_goes_on 2 (signed_number_at w16) SignedConstant (signed_number_takes w16))
    (and_then (one_goes_on 4 (number_at 4) UnsignedConstant (number_takes 4))
    (and_then (one_goes_on 4 (signed_number_at w32) SignedConstant (signed_number_takes w32))
    (and_then (one_goes_on 8 (number_at 8) UnsignedConstant (number_takes 8))
    (and_then (one_goes_on 8 (signed_number_at w64) SignedConstant (signed_number_takes w64))
    (and_then (one_goes_on 1 unsigned_at UnsignedConstant unsigned_takes)
    (and_then (one_goes_on 1 signed_at SignedConstant signed_takes)
    (and_then (one_goes_on 1 byte_at Pick byte_takes)
    (and_then (one_goes_on 1 unsigned_at PlusConstant unsigned_takes)
    (and_then (one_goes_on 2 (signed_number_at w16) Bra (signed_number_takes w16))
    (and_then (one_goes_on 2 (signed_number_at w16) Skip (signed_number_takes w16))
    (and_then register_goes_on
    no_rows)))))))))))))))

module _ (opcode : ℕ) (plain : Option Operation) where
  plain_goes_on : (o : Option Operation) (s : Stretch) → Takes 0 s (listed_operation None o s)
  plain_goes_on (Some operation) s = leaves_ok (omega arith)
  plain_goes_on None s = leaves_err

  pub listed_goes_on : (rows : List (DwOp × Parse Operation)) → AllGoOn rows → (s : Stretch) → Takes 0 s (listed_operation (look_up opcode_number opcode rows) plain s)
  listed_goes_on [] no_rows s = plain_goes_on plain s
  listed_goes_on ((code, operands) ∷ rows) (one_more _ _ _ first others) s =
      by_case (opcode == code.0)
      (λ is. rw is (first.takes s))
      (λ is. rw is (listed_goes_on rows others s))

said_takes : (size opcode : ℕ) (s : Stretch) → Takes 0 s (operation_by size opcode s)
said_takes size opcode s =
    leaves_if (is_between DW_OP_lit0 DW_OP_lit31 opcode) (leaves_ok (omega arith))
    (leaves_if (is_between DW_OP_breg0 DW_OP_breg31 opcode) ((offset_goes_on (opcode - DW_OP_breg0.0)).takes s)
    (listed_goes_on opcode (look_up opcode_number opcode without_operands) (with_operands size) (table_goes_on size) s))

-- an operation takes a byte at least
operation_takes : (size : ℕ) (s : Stretch) → Takes 1 s (operation_at size s)
operation_takes size s = leaves_then (byte_takes s) (λ opcode le. leaves_from {m = 1} (said_takes size opcode.0 opcode.1) (omega arith))

operations_shrink : (size : ℕ) → Shrinks size_of (item_at (operation_at size))
operations_shrink size = items_shrink (item_at (operation_at size)) (λ s. item_takes 1 (operation_at size) s (operation_takes size s))

-- a call of next, by the step that it takes
pub next_taken : (size : ℕ) (result : Result (Option Operation) Error) (s rest : Stretch) → item_at (operation_at size) s ≡ step_taken (λ o. o) result rest
    → LeavesNone result (item_at (operation_at size) rest) → GivesNext (λ o. o) result (operations_of size s) (operations_of size rest)
unfolding operations_of
next_taken size result s rest is none = gives-next size_of (item_at (operation_at size)) (operations_shrink size) (λ o. o) result s rest is none

-- where bytes are left, an item is the operation there, and else there is none
pub item_there : (size : ℕ) (s : Stretch) (read : Result (Operation × Stretch) Error) → (length s.bytes == 0) ≡ false → operation_at size s ≡ read
    → item_at (operation_at size) s ≡ (read >>= λ item. Ok (Some item))
item_there size s read some is = rw some (ap (λ answer. answer >>= λ item. Ok (Some item)) is)

pub item_none : (size : ℕ) (s : Stretch) → (length s.bytes == 0) ≡ true → item_at (operation_at size) s ≡ Ok None
item_none size s none = rw none refl
