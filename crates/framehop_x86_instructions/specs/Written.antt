-- Which general registers an instruction may write.
--
-- Intel SDM, volume 2, 2.2.1.2 (byte registers with REX), A.4.
use Rattle.std.specs.Prelude.{ℕ, ◌-◌, ◌==◌, ◌&&◌, not, Bool, true, false, nat_le, nat_lt, if◌then◌else◌, [], ◌∷◌, Option, Some, None}
use Rattle.framehop_x86_instructions.specs.Registers.{none, one, both}
use Rattle.framehop_x86_instructions.specs.WrittenMaps.{rax, rdx, bits_of}
use Rattle.framehop_x86_instructions.specs.declared.fields.Fields.{Fields}
use Rattle.framehop_x86_instructions.specs.declared.registers.Registers.{Registers}
use Rattle.framehop_x86_instructions.specs.declared.writes.Writes.{Writes}
use Rattle.framehop_x86_instructions.specs.declared.writes.Writes.TheVariants.{These, Reg, Rm, RmUnlessF3, NarrowReg, NarrowRm, NarrowBoth, ByteRm, Opcode, ByteOpcode, OpcodeAndRax, NarrowRmAndRax, RmRaxAndRdx, Vvvv, RegAndVvvv, Group1, Group3, Group4, Group11, Group7}

-- The register with a number. If one byte is written, the numbers from 4 to 7 without REX are AH, CH, DH and BH.
abbrev pub of_size : ℕ → Bool → Bool → Registers
of_size number is_byte has_rex = if is_byte && not has_rex && nat_le 4 number && nat_lt number 8 then one (number - 4) else one number

abbrev pub reg_set : Fields → Bool → Registers
reg_set fields is_byte = of_size fields.reg is_byte fields.has_rex

-- The register of rm, if it isn't memory.
abbrev pub rm_set : Fields → Bool → Registers
rm_set fields is_byte = if fields.is_register then of_size fields.rm is_byte fields.has_rex else none

abbrev pub rm_unless_f3 : Fields → Registers
rm_unless_f3 fields = if fields.has_f3 then none else rm_set fields false

-- ADD /0 to XOR /6, and CMP /7, which writes none.
abbrev pub group_1 : Fields → Registers
group_1 fields = if fields.digit == 7 then none else rm_set fields fields.is_narrow

-- TEST /0 and /1, which write none; NOT /2, NEG /3; MUL, IMUL, DIV, IDIV.
abbrev pub group_3 : Fields → Registers
group_3 fields =
    if nat_lt fields.digit 2 then none else
    if nat_lt fields.digit 4 then rm_set fields fields.is_narrow else record { bits = bits_of (rax ∷ rdx ∷ []) }

-- Groups 4 and 5: INC /0, DEC /1. Group 11: MOV /0. Group 7 in memory: descriptors are stored or loaded.
abbrev pub goes_on : Writes → Fields → Bool
goes_on Group4 fields = nat_lt fields.digit 2
goes_on Group11 fields = fields.digit == 0
goes_on Group7 fields = not fields.is_register
goes_on _ fields = false

abbrev pub written_by_group : Writes → Fields → Option Registers
written_by_group writes fields = if goes_on writes fields then Some (rm_set fields fields.is_narrow) else None

-- The registers that an instruction may write, if not any.
abbrev pub written : Writes → Fields → Option Registers
written (These registers) fields = Some registers
written Reg fields = Some (one fields.reg)
written Rm fields = Some (rm_set fields false)
written RmUnlessF3 fields = Some (rm_unless_f3 fields)
written NarrowReg fields = Some (reg_set fields fields.is_narrow)
written NarrowRm fields = Some (rm_set fields fields.is_narrow)
written NarrowBoth fields = Some (both (reg_set fields fields.is_narrow) (rm_set fields fields.is_narrow))
written ByteRm fields = Some (rm_set fields true)
written Opcode fields = Some (one fields.opcode)
written ByteOpcode fields = Some (of_size fields.opcode true fields.has_rex)
written OpcodeAndRax fields = Some (both (one rax) (one fields.opcode))
written NarrowRmAndRax fields = Some (both (one rax) (rm_set fields fields.is_narrow))
written RmRaxAndRdx fields = Some (both (record { bits = bits_of (rax ∷ rdx ∷ []) }) (rm_set fields false))
written Vvvv fields = Some (one fields.vvvv)
written RegAndVvvv fields = Some (both (one fields.reg) (one fields.vvvv))
written Group1 fields = Some (group_1 fields)
written Group3 fields = Some (group_3 fields)
written other fields = written_by_group other fields
