-- What an instruction does to the stack pointer and other general registers, and where it goes on.
--
-- Intel SDM, volume 2, A.3, A.4, chapters 3 to 5 (ADD, CALL, Jcc, JMP, LEA, LEAVE, MOV, POP, PUSH, RET, SUB), 2.2.1.7 (operand sizes of 64 bits).
use Rattle.std.specs.Prelude.{ℕ, ◌+◌, ◌==◌, ◌&&◌, ◌||◌, ℤ, pos, ◌-ℤ◌, not, if◌then◌else◌, List, slice_index, Option, Some, None, option_and_then}
use Rattle.std.specs.Option.{option_map, option_or}
use Rattle.framehop_x86_instructions.specs.Addresses.{base_numbered, displacement, address_of}
use Rattle.framehop_x86_instructions.specs.Fields.{fields_of}
use Rattle.framehop_x86_instructions.specs.Numbers.{word_at, signed_byte, signed_at}
use Rattle.framehop_x86_instructions.specs.OpcodeMaps.{within}
use Rattle.framehop_x86_instructions.specs.Registers.{register_numbered}
use Rattle.framehop_x86_instructions.specs.Written.{written}
use Rattle.framehop_x86_instructions.specs.WrittenOpcodes.{writes_of}
use Rattle.framehop_x86_instructions.specs.declared.address.Address.{Address}
use Rattle.framehop_registers.specs.declared.x86_64.unwindregs.Reg.{Reg}
use Rattle.framehop_x86_instructions.specs.declared.address.Base.{Base}
use Rattle.framehop_x86_instructions.specs.declared.effect.Effect.{Effect}
use Rattle.framehop_x86_instructions.specs.declared.effect.Effect.TheVariants.{Push, Pop, Leave, Move, Load, Store, Call, Jump, JumpIf, JumpAway, Return, Plain, Unknown}
use Rattle.framehop_x86_instructions.specs.declared.fields.Fields.{Fields}
use Rattle.framehop_x86_instructions.specs.declared.layout.Layout.{Layout}
use Rattle.framehop_x86_instructions.specs.declared.opcode.Encoding.{Encoding}
use Rattle.framehop_x86_instructions.specs.declared.opcode.Encoding.TheVariants.{Legacy}
use Rattle.framehop_x86_instructions.specs.declared.opcode.Map.{Map}
use Rattle.framehop_x86_instructions.specs.declared.opcode.Map.TheVariants.{OneByte, TwoByte}
use Rattle.framehop_x86_instructions.specs.declared.opcode.Opcode.{Opcode}
use Rattle.framehop_x86_instructions.specs.declared.registers.Registers.{Registers}

-- A pop to the register with a number. One of RSP isn't told.
abbrev pub popped : ℕ → Effect
popped number = if number == 4 then Unknown else Pop (Some (register_numbered number))

-- POP /0.
abbrev pub popped_rm : Fields → Effect
popped_rm fields = if not (fields.digit == 0) then Unknown else if fields.is_register then popped fields.rm else Pop None

-- PUSH of a register, of a number and of the flags; POP of a register, of an operand and of the flags; LEAVE.
abbrev pub stack_effect : ℕ → Fields → Option Effect
stack_effect byte fields =
    if within 0x50 0x57 byte then Some (Push (Some (register_numbered fields.opcode))) else
    if within 0x58 0x5f byte then Some (popped fields.opcode) else
    if (byte == 0x68) || (byte == 0x6a) || (byte == 0x9c) then Some (Push None) else
    if byte == 0x8f then Some (popped_rm fields) else
    if byte == 0x9d then Some (Pop None) else
    if byte == 0xc9 then Some Leave else None

-- Group 5: CALL /2, JMP /4, PUSH /6.
abbrev pub group_5 : Fields → Option Effect
group_5 fields =
    if fields.digit == 2 then Some Call else
    if fields.digit == 4 then Some JumpAway else
    if fields.digit == 6 then Some (Push (if fields.is_register then Some (register_numbered fields.rm) else None)) else None

-- Jcc Jb and JRCXZ; RET; CALL; JMP Jz and Jb.
abbrev pub control_effect : List ℕ → ℕ → Fields → ℕ → Option Effect
control_effect code byte fields at =
    if within 0x70 0x7f byte || (byte == 0xe3) then Some (JumpIf (signed_byte (slice_index code at))) else
    if byte == 0xc2 then Some (Return (word_at code at)) else
    if byte == 0xc3 then Some (Return 0) else
    if byte == 0xe8 then Some Call else
    if byte == 0xe9 then Some (Jump (signed_at code at)) else
    if byte == 0xeb then Some (Jump (signed_byte (slice_index code at))) else
    if byte == 0xff then group_5 fields else None

-- After 0F: Jcc Jz; PUSH and POP of FS and GS.
abbrev pub two_byte_effect : List ℕ → ℕ → ℕ → Option Effect
two_byte_effect code byte at =
    if within 0x80 0x8f byte then Some (JumpIf (signed_at code at)) else
    if (byte == 0xa0) || (byte == 0xa8) then Some (Push None) else
    if (byte == 0xa1) || (byte == 0xa9) then Some (Pop None) else None

-- A base is moved to a register.
abbrev pub moved : ℕ → ℕ → Option Effect
moved to from = option_map (λ base. Move (register_numbered to) base (pos 0)) (base_numbered from)

-- MOV to the register of reg, from rm.
abbrev pub load_effect : Fields → Option Address → Option Effect
load_effect fields address =
    if fields.is_register then moved fields.reg fields.rm else option_map (λ from. Load (register_numbered fields.reg) from) address

-- MOV of the register of reg to rm.
abbrev pub store_effect : Fields → Option Address → Option Effect
store_effect fields address =
    if fields.is_register then moved fields.rm fields.reg else option_map (λ to. Store (register_numbered fields.reg) to) address

-- LEA.
abbrev pub address_effect : Fields → Option Address → Option Effect
address_effect fields address = option_map (λ it. Move (register_numbered fields.reg) it.base it.bytes) address

-- Group 1: ADD /0, SUB /5, of a number to a base.
abbrev pub summed : ℕ → Reg → ℤ → Base → Option Effect
summed digit to number base =
    if digit == 0 then Some (Move to base number) else
    if digit == 5 then Some (Move to base (pos 0 -ℤ number)) else None

abbrev pub sum_effect : List ℕ → Fields → ℕ → ℕ → Option Effect
sum_effect code fields mode at =
    if not fields.is_register then None else
    option_and_then (summed fields.digit (register_numbered fields.rm) (displacement code mode at)) (base_numbered fields.rm)

-- Group 1 with Iz and Ib; MOV Ev,Gv and Gv,Ev; LEA. The number of group 1 is right behind the ModRM byte of a register.
abbrev pub move_effect : List ℕ → ℕ → Fields → Layout → ℕ → Option Effect
move_effect code byte fields layout at =
    if byte == 0x81 then sum_effect code fields 2 at else
    if byte == 0x83 then sum_effect code fields 1 at else
    if byte == 0x89 then store_effect fields (address_of code layout at) else
    if byte == 0x8b then load_effect fields (address_of code layout at) else
    if byte == 0x8d then address_effect fields (address_of code layout at) else None

-- All else, by what may be written.
abbrev pub plain_by : Option Registers → Effect
plain_by (Some registers) = Plain registers
plain_by None = Unknown

abbrev pub plain_effect : Fields → Opcode → Effect
plain_effect fields opcode = plain_by (written (writes_of opcode.encoding opcode.map opcode.byte) fields)

abbrev pub stack_or_control_by : Encoding → Map → List ℕ → ℕ → Fields → ℕ → Option Effect
stack_or_control_by Legacy OneByte code byte fields at = option_or (stack_effect byte fields) (control_effect code byte fields at)
stack_or_control_by Legacy TwoByte code byte fields at = two_byte_effect code byte at
stack_or_control_by _ _ code byte fields at = None

abbrev pub stack_or_control : List ℕ → Fields → Opcode → ℕ → Option Effect
stack_or_control code fields opcode at = stack_or_control_by opcode.encoding opcode.map code opcode.byte fields at

-- With W, whose operands have eight bytes.
abbrev pub base_effect_by : Encoding → Map → List ℕ → Fields → Layout → ℕ → Option Effect
base_effect_by Legacy OneByte code fields layout at =
    if layout.opcode.extension.w then move_effect code layout.opcode.byte fields layout at else None
base_effect_by _ _ code fields layout at = None

abbrev pub base_effect : List ℕ → Fields → Layout → ℕ → Option Effect
base_effect code fields layout at = base_effect_by layout.opcode.encoding layout.opcode.map code fields layout at

-- With a 66 prefix operands on the stack have two bytes, and processors differ in how they jump.
abbrev pub unless_short : Layout → Effect → Effect
unless_short layout effect = if layout.prefixes.operand_size && not layout.opcode.extension.w then Unknown else effect

abbrev pub effect_by : Layout → Fields → Option Effect → Option Effect → Effect
effect_by layout fields (Some effect) other = unless_short layout effect
effect_by layout fields None (Some effect) = effect
effect_by layout fields None None = plain_effect fields layout.opcode

abbrev pub effect_at : List ℕ → Layout → Fields → ℕ → Effect
effect_at code layout fields at = effect_by layout fields (stack_or_control code fields layout.opcode at) (base_effect code fields layout (at + 1))

abbrev pub effect_of : List ℕ → Layout → Effect
effect_of code layout = effect_at code layout (fields_of layout) (layout.prefixes.count + layout.opcode.size)
