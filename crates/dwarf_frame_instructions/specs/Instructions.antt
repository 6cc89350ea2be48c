-- Call frame instructions (DWARF 5, 6.4.2; their bytes 7.24, table 7.29).
use Rattle.std.specs.Prelude.{ℕ, ◌-◌, ◌%◌, ◌^◌, List, [], ◌∷◌, ◌++◌, Option, Some, None, Result, Ok, Err, nat_le}
use Rattle.list_laws.specs.Items.{items_of}
use Rattle.dwarf_constants.specs.declared.common.Register.{Register}
use Rattle.dwarf_constants.specs.declared.common.Vendor.{Vendor}
use Rattle.dwarf_constants.specs.declared.common.Vendor.TheVariants as vendor
use Rattle.dwarf_constants.specs.declared.constants.DwCfa.{DwCfa}
use Rattle.dwarf_constants.specs.declared.constants.TheConstants.{DW_CFA_advance_loc, DW_CFA_offset, DW_CFA_restore, DW_CFA_nop, DW_CFA_set_loc, DW_CFA_advance_loc1, DW_CFA_advance_loc2, DW_CFA_advance_loc4, DW_CFA_offset_extended, DW_CFA_restore_extended, DW_CFA_undefined, DW_CFA_same_value, DW_CFA_register, DW_CFA_remember_state, DW_CFA_restore_state, DW_CFA_def_cfa, DW_CFA_def_cfa_register, DW_CFA_def_cfa_offset, DW_CFA_def_cfa_expression, DW_CFA_expression, DW_CFA_offset_extended_sf, DW_CFA_def_cfa_sf, DW_CFA_def_cfa_offset_sf, DW_CFA_val_offset, DW_CFA_val_offset_sf, DW_CFA_val_expression, DW_CFA_AARCH64_negate_ra_state, DW_CFA_GNU_args_size}
use Rattle.dwarf_constants.specs.declared.error.Error.{Error}
use Rattle.dwarf_constants.specs.declared.error.Error.TheVariants.{OffsetOutOfBounds, UnknownCallFrameInstruction}
use Rattle.dwarf_readers.specs.InitialLength.{address_at, as_offset}
use Rattle.dwarf_readers.specs.Leb128.{signed_at, unsigned_at, unsigned_16_at}
use Rattle.dwarf_readers.specs.Operands.{Parse, alone, look_up, one, two}
use Rattle.dwarf_endianity.specs.Offset.{offset_below}
use Rattle.dwarf_readers.specs.Stretch.{Stretch, ◌>>=◌, behind_at, byte_at, number_at, requirement}
use Rattle.dwarf_readers.specs.Remainder.{item_at, size_of}
use Rattle.dwarf_frame_rows.specs.declared.expression.UnwindExpression.{UnwindExpression}
use Rattle.dwarf_frame_rows.specs.EncodedPointer.{Origins, direct_address, pointer_at}
use Rattle.dwarf_frame_instructions.specs.declared.instructions.CallFrameInstruction.{CallFrameInstruction}
use Rattle.dwarf_frame_instructions.specs.declared.instructions.CallFrameInstruction.TheVariants.{SetLoc, AdvanceLoc, DefCfa, DefCfaSf, DefCfaRegister, DefCfaOffset, DefCfaOffsetSf, DefCfaExpression, Undefined, SameValue, Offset, OffsetExtendedSf, ValOffset, ValOffsetSf, Register as InRegister, Expression, ValExpression, Restore, RememberState, RestoreState, ArgsSize, NegateRaState, Nop}

-- how the bytes of instructions are read: the encoding of addresses, if the entry has one; what pointers are relative to, and the
-- size of an address; whose instructions are taken; and what lengths are below
pub record Conventions : Type 0 where
  pub encoding : Option ℕ
  pub origins : Origins
  pub vendor : Vendor
  pub limit : ℕ

-- ---- operands

-- a register's number
abbrev pub register_at : Parse Register
register_at s = do
  number ← unsigned_16_at s
  Ok (record { 0 = number.0 }, number.1)

-- an address in an encoding, which has to be direct; without an encoding, as many bytes as an address has. No pointer is before
-- the start of its section
abbrev pub location_in : Option ℕ → Origins → Parse ℕ
location_in (Some encoding) origins s = do
  _ ← requirement (nat_le origins.section_place s.offset) OffsetOutOfBounds
  pointer ← pointer_at origins encoding s
  address ← direct_address pointer.0
  Ok (address, pointer.1)
location_in None origins s = address_at origins.address_size s

-- an address (6.4.2.1)
abbrev pub location_at : Conventions → Parse ℕ
location_at conventions s = location_in conventions.encoding conventions.origins s

-- an expression: its length, and its offset in the section; its bytes are passed over (7.5.5, exprloc)
abbrev pub expression_at : Conventions → Parse (UnwindExpression ℕ)
expression_at conventions s = do
  read ← unsigned_at s
  count ← as_offset conventions.limit read
  offset ← offset_below conventions.limit (count.1.offset - conventions.origins.section_place)
  rest ← behind_at count.0 count.1
  Ok (record { offset = offset; length = count.0 }, rest)

-- ---- the opcodes (table 7.29)

-- an instruction with its operands
abbrev pub Operands : Type 0
Operands = Parse (CallFrameInstruction ℕ)

-- the number of an opcode
abbrev pub opcode_number : DwCfa → ℕ
opcode_number opcode = opcode.0

-- the opcodes in the high two bits; the low six are the first operand
abbrev pub primary_opcodes : List (DwCfa × (ℕ → Operands))
primary_opcodes =
    (DW_CFA_advance_loc, λ low. alone (AdvanceLoc low))
    ∷ (DW_CFA_offset, λ low. one unsigned_at (Offset (record { 0 = low })))
    ∷ (DW_CFA_restore, λ low. alone (Restore (record { 0 = low })))
    ∷ []

-- row creation (6.4.2.1)
abbrev pub row_creation : Conventions → List (DwCfa × Operands)
row_creation conventions =
    (DW_CFA_set_loc, one (location_at conventions) SetLoc)
    ∷ (DW_CFA_advance_loc1, one byte_at AdvanceLoc)
    ∷ (DW_CFA_advance_loc2, one (number_at 2) AdvanceLoc)
    ∷ (DW_CFA_advance_loc4, one (number_at 4) AdvanceLoc)
    ∷ []

-- definition of the CFA (6.4.2.2)
abbrev pub cfa_definition : Conventions → List (DwCfa × Operands)
cfa_definition conventions =
    (DW_CFA_def_cfa, two register_at unsigned_at DefCfa)
    ∷ (DW_CFA_def_cfa_sf, two register_at signed_at DefCfaSf)
    ∷ (DW_CFA_def_cfa_register, one register_at DefCfaRegister)
    ∷ (DW_CFA_def_cfa_offset, one unsigned_at DefCfaOffset)
    ∷ (DW_CFA_def_cfa_offset_sf, one signed_at DefCfaOffsetSf)
    ∷ (DW_CFA_def_cfa_expression, one (expression_at conventions) DefCfaExpression)
    ∷ []

-- register rules without a value, or by an offset from the CFA (6.4.2.3)
abbrev pub offset_rules : List (DwCfa × Operands)
offset_rules =
    (DW_CFA_undefined, one register_at Undefined)
    ∷ (DW_CFA_same_value, one register_at SameValue)
    ∷ (DW_CFA_offset_extended, two register_at unsigned_at Offset)
    ∷ (DW_CFA_offset_extended_sf, two register_at signed_at OffsetExtendedSf)
    ∷ (DW_CFA_val_offset, two register_at unsigned_at ValOffset)
    ∷ (DW_CFA_val_offset_sf, two register_at signed_at ValOffsetSf)
    ∷ []

-- register rules by another register, by an expression, or as the CIE says (6.4.2.3)
abbrev pub other_rules : Conventions → List (DwCfa × Operands)
other_rules conventions =
    (DW_CFA_register, two register_at register_at InRegister)
    ∷ (DW_CFA_expression, two register_at (expression_at conventions) Expression)
    ∷ (DW_CFA_val_expression, two register_at (expression_at conventions) ValExpression)
    ∷ (DW_CFA_restore_extended, one register_at Restore)
    ∷ []

-- row state (6.4.2.4)
abbrev pub row_state : List (DwCfa × Operands)
row_state =
    (DW_CFA_remember_state, alone RememberState)
    ∷ (DW_CFA_restore_state, alone RestoreState)
    ∷ []

-- padding (6.4.2.5), and the size of arguments, an extension of GNU
abbrev pub padding : List (DwCfa × Operands)
padding =
    (DW_CFA_nop, alone Nop)
    ∷ (DW_CFA_GNU_args_size, one unsigned_at ArgsSize)
    ∷ []

-- extensions of one vendor alone
abbrev pub vendor_opcodes : Vendor → List (DwCfa × Operands)
vendor_opcodes vendor.Default = []
vendor_opcodes vendor.AArch64 = (DW_CFA_AARCH64_negate_ra_state, alone NegateRaState) ∷ []

-- the opcodes in all eight bits, in the order of the standard's sections
abbrev pub extended_opcodes : Conventions → List (DwCfa × Operands)
extended_opcodes conventions =
    row_creation conventions
    ++ cfa_definition conventions
    ++ offset_rules
    ++ other_rules conventions
    ++ row_state
    ++ padding
    ++ vendor_opcodes conventions.vendor

-- ---- instructions

-- the operands that were found, if any were
abbrev pub found_or_unknown : ℕ → Option Operands → Operands
found_or_unknown opcode (Some operands) s = operands s
found_or_unknown opcode None s = Err (UnknownCallFrameInstruction (record { 0 = opcode }))

-- the instruction that a table has for an opcode, which is unknown without one
abbrev pub listed_at : List (DwCfa × Operands) → ℕ → Operands
listed_at rows opcode = found_or_unknown opcode (look_up opcode_number opcode rows)

-- the instruction of an opcode in all eight bits
abbrev pub extended_instruction : Conventions → ℕ → Operands
extended_instruction conventions opcode = listed_at (extended_opcodes conventions) opcode

-- the instruction of an opcode in the high two bits, if there is one, or else in all eight
abbrev pub instruction_by : Conventions → ℕ → ℕ → Option (ℕ → Operands) → Operands
instruction_by conventions opcode low (Some operands) = operands low
instruction_by conventions opcode low None = extended_instruction conventions opcode

-- the instruction of an opcode
abbrev pub instruction_of : Conventions → ℕ → Operands
instruction_of conventions opcode =
    instruction_by conventions opcode (opcode % 2 ^ 6) (look_up opcode_number (opcode - opcode % 2 ^ 6) primary_opcodes)

-- the instruction at the start of a stretch, and what is left after it
abbrev pub instruction_at : Conventions → Operands
instruction_at conventions s = do
  opcode ← byte_at s
  instruction_of conventions opcode.0 opcode.1

-- the instructions of a stretch, in their order, up to the first that cannot be read, whose error is the last
unfoldable pub instructions_of : Conventions → Stretch → List (Result (CallFrameInstruction ℕ) Error)
instructions_of conventions s = items_of size_of (item_at (instruction_at conventions)) s
