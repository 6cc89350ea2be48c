-- The operations of an expression (DWARF 5, 2.5; their bytes 7.7.1, table 7.9): those on values without a type. Any other is
-- an error.
use Rattle.std.specs.Prelude.{ℕ, ◌-◌, ◌==◌, ◌&&◌, ◌||◌, List, [], ◌∷◌, Bool, Option, Some, None, Result, Ok, Err, nat_le, if◌then◌else◌}
use Rattle.std.specs.Int.{w16, w32, w64}
use Rattle.list_laws.specs.Items.{items_of}
use Rattle.dwarf_constants.specs.declared.constants.DwOp.{DwOp}
use Rattle.dwarf_constants.specs.declared.constants.TheConstants.{DW_OP_addr, DW_OP_const1u, DW_OP_const1s, DW_OP_const2u, DW_OP_const2s, DW_OP_const4u, DW_OP_const4s, DW_OP_const8u, DW_OP_const8s, DW_OP_constu, DW_OP_consts, DW_OP_dup, DW_OP_drop, DW_OP_over, DW_OP_pick, DW_OP_swap, DW_OP_rot, DW_OP_abs, DW_OP_and, DW_OP_div, DW_OP_minus, DW_OP_mod, DW_OP_mul, DW_OP_neg, DW_OP_not, DW_OP_or, DW_OP_plus, DW_OP_plus_uconst, DW_OP_shl, DW_OP_shr, DW_OP_shra, DW_OP_xor, DW_OP_bra, DW_OP_eq, DW_OP_ge, DW_OP_gt, DW_OP_le, DW_OP_lt, DW_OP_ne, DW_OP_skip, DW_OP_lit0, DW_OP_lit31, DW_OP_breg0, DW_OP_breg31, DW_OP_bregx, DW_OP_nop}
use Rattle.dwarf_constants.specs.declared.error.Error.{Error}
use Rattle.dwarf_constants.specs.declared.error.Error.TheVariants.{UnsupportedEvaluation}
use Rattle.dwarf_readers.specs.InitialLength.{address_at}
use Rattle.dwarf_readers.specs.Leb128.{left_by_leb128, signed_at, unsigned_at, unsigned_16_at}
use Rattle.dwarf_readers.specs.Operands.{Parse, look_up, one}
use Rattle.dwarf_readers.specs.Stretch.{Stretch, ◌>>=◌, byte_at, number_at, signed_byte_at, signed_number_at}
use Rattle.dwarf_readers.specs.Remainder.{item_at, size_of}
use Rattle.dwarf_operations.specs.declared.op.Operation.{Operation}
use Rattle.dwarf_operations.specs.declared.op.Operation.TheVariants.{Address, UnsignedConstant, SignedConstant, Pick, Drop, Swap, Rot, Abs, And, Div, Minus, Mod, Mul, Neg, Not, Or, Plus, PlusConstant, Shl, Shr, Shra, Xor, Bra, Eq, Ge, Gt, Le, Lt, Ne, Skip, RegisterOffset, Nop}

-- the number of an opcode
abbrev pub opcode_number : DwOp → ℕ
opcode_number opcode = opcode.0

-- a register's value plus an offset, which is the operand (2.5.1.2)
abbrev pub offset_of : ℕ → Parse Operation
offset_of register s = one signed_at (RegisterOffset (record { 0 = register })) s

-- a register's value plus an offset, both operands (2.5.1.2)
abbrev pub register_and_offset : Parse Operation
register_and_offset s = do
  register ← unsigned_16_at s
  offset_of register.0 register.1

-- the operations with operands; an address has this size in bytes
abbrev pub with_operands : ℕ → List (DwOp × Parse Operation)
with_operands size =
    (DW_OP_addr, one (address_at size) Address)
    ∷ (DW_OP_const1u, one byte_at UnsignedConstant)
    ∷ (DW_OP_const1s, one signed_byte_at SignedConstant)
    ∷ (DW_OP_const2u, one (number_at 2) UnsignedConstant)
    ∷ (DW_OP_const2s, one (signed_number_at w16) SignedConstant)
    ∷ (DW_OP_const4u, one (number_at 4) UnsignedConstant)
    ∷ (DW_OP_const4s, one (signed_number_at w32) SignedConstant)
    ∷ (DW_OP_const8u, one (number_at 8) UnsignedConstant)
    ∷ (DW_OP_const8s, one (signed_number_at w64) SignedConstant)
    ∷ (DW_OP_constu, one unsigned_at UnsignedConstant)
    ∷ (DW_OP_consts, one signed_at SignedConstant)
    ∷ (DW_OP_pick, one byte_at Pick)
    ∷ (DW_OP_plus_uconst, one unsigned_at PlusConstant)
    ∷ (DW_OP_bra, one (signed_number_at w16) Bra)
    ∷ (DW_OP_skip, one (signed_number_at w16) Skip)
    ∷ (DW_OP_bregx, register_and_offset)
    ∷ []

-- the operations without operands
abbrev pub without_operands : List (DwOp × Operation)
without_operands =
    (DW_OP_dup, Pick 0)
    ∷ (DW_OP_drop, Drop)
    ∷ (DW_OP_over, Pick 1)
    ∷ (DW_OP_swap, Swap)
    ∷ (DW_OP_rot, Rot)
    ∷ (DW_OP_abs, Abs)
    ∷ (DW_OP_and, And)
    ∷ (DW_OP_div, Div)
    ∷ (DW_OP_minus, Minus)
    ∷ (DW_OP_mod, Mod)
    ∷ (DW_OP_mul, Mul)
    ∷ (DW_OP_neg, Neg)
    ∷ (DW_OP_not, Not)
    ∷ (DW_OP_or, Or)
    ∷ (DW_OP_plus, Plus)
    ∷ (DW_OP_shl, Shl)
    ∷ (DW_OP_shr, Shr)
    ∷ (DW_OP_shra, Shra)
    ∷ (DW_OP_xor, Xor)
    ∷ (DW_OP_eq, Eq)
    ∷ (DW_OP_ge, Ge)
    ∷ (DW_OP_gt, Gt)
    ∷ (DW_OP_le, Le)
    ∷ (DW_OP_lt, Lt)
    ∷ (DW_OP_ne, Ne)
    ∷ (DW_OP_nop, Nop)
    ∷ []

-- an operation by its row in either table, if it has one
abbrev pub listed_operation : Option (Parse Operation) → Option Operation → Parse Operation
listed_operation (Some operands) plain s = operands s
listed_operation None (Some operation) s = Ok (operation, s)
listed_operation None None s = Err UnsupportedEvaluation

-- the operation of an opcode that is in one of the tables
abbrev pub tabled_operation : ℕ → ℕ → Parse Operation
tabled_operation size opcode =
    listed_operation (look_up opcode_number opcode (with_operands size)) (look_up opcode_number opcode without_operands)

-- the opcode is one of those from first to last
abbrev pub is_between : DwOp → DwOp → ℕ → Bool
is_between first last opcode = nat_le first.0 opcode && nat_le opcode last.0

-- the operation of an opcode, with the operands after it: DW_OP_lit0 to DW_OP_lit31 are numbers, DW_OP_breg0 to DW_OP_breg31
-- registers, and all others are in the tables
abbrev pub operation_by : ℕ → ℕ → Parse Operation
operation_by size opcode s =
    if is_between DW_OP_lit0 DW_OP_lit31 opcode then Ok (UnsignedConstant (opcode - DW_OP_lit0.0), s)
    else if is_between DW_OP_breg0 DW_OP_breg31 opcode then offset_of (opcode - DW_OP_breg0.0) s
    else tabled_operation size opcode s

-- the first operation, and what is left after it
abbrev pub operation_at : ℕ → Parse Operation
operation_at size s = do
  opcode ← byte_at s
  operation_by size opcode.0 opcode.1

-- what is left if the operands of DW_OP_bregx can't be read
abbrev pub left_by_register : Result (ℕ × Stretch) Error → Stretch → Stretch
left_by_register (Ok register) s = left_by_leb128 10 register.1
left_by_register (Err e) s = left_by_leb128 3 s

-- what is left if the operands after an opcode that is in a table can't be read: numbers of variable length are gone, as far as
-- they were read, and all else is left
abbrev pub left_by_tabled : ℕ → Stretch → Stretch
left_by_tabled opcode s =
    if opcode == DW_OP_constu.0 || opcode == DW_OP_consts.0 || opcode == DW_OP_plus_uconst.0 then left_by_leb128 10 s
    else if opcode == DW_OP_bregx.0 then left_by_register (unsigned_16_at s) s
    else s

-- what is left if the operands after an opcode can't be read
abbrev pub left_by_operands : ℕ → Stretch → Stretch
left_by_operands opcode s = if is_between DW_OP_breg0 DW_OP_breg31 opcode then left_by_leb128 10 s else left_by_tabled opcode s

-- what is left if an operation can't be read; without a byte there is no opcode
abbrev pub left_by_operation : Result (ℕ × Stretch) Error → Stretch → Stretch
left_by_operation (Ok opcode) s = left_by_operands opcode.0 opcode.1
left_by_operation (Err e) s = s

-- the operations of a stretch, in the order of their bytes; an error is the last
unfoldable pub operations_of : ℕ → Stretch → List (Result Operation Error)
operations_of size s = items_of size_of (item_at (operation_at size)) s
