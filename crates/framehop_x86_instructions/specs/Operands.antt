-- What stands behind an opcode, and how many bytes its numbers have.
--
-- Intel SDM, volume 2, 2.1.5, 2.2.1.2, 2.2.1.5 (immediates in 64-bit mode), 2.3.2 (VEX and the LOCK prefix), 2.3.3, 2.3.4, 2.3.11, A.2.2.
use Rattle.std.specs.Prelude.{ℕ, ◌==◌, ◌&&◌, ◌||◌, not, Bool, true, false, nat_lt, is_some, if◌then◌else◌}
use Rattle.framehop_x86_instructions.specs.OpcodeMaps.{one_byte_map, two_byte_map, vector_map}
use Rattle.framehop_x86_instructions.specs.declared.opcode.Encoding.{Encoding}
use Rattle.framehop_x86_instructions.specs.declared.opcode.Encoding.TheVariants.{Legacy, Vex, Evex, Xop}
use Rattle.framehop_x86_instructions.specs.declared.opcode.Map.{Map}
use Rattle.framehop_x86_instructions.specs.declared.opcode.Map.TheVariants.{OneByte, TwoByte, ThreeByte38, ThreeByte3A, Map5, Map6}
use Rattle.framehop_x86_instructions.specs.declared.opcode.Opcode.{Opcode}
use Rattle.framehop_x86_instructions.specs.declared.operands.Operands.{Operands}
use Rattle.framehop_x86_instructions.specs.declared.operands.Operands.TheVariants.{Undefined, Nothing, Byte, Word, WordAndByte, Sized, Whole, Address, Distance, ModRm, ModRmByte, ModRmSized, ModRmTestByte, ModRmTestSized}
use Rattle.framehop_x86_instructions.specs.declared.prefixes.Prefixes.{Prefixes}

-- Whether a ModRM byte comes next.
abbrev pub has_modrm : Operands → Bool
has_modrm ModRm = true
has_modrm ModRmByte = true
has_modrm ModRmSized = true
has_modrm ModRmTestByte = true
has_modrm ModRmTestSized = true
has_modrm _ = false

-- Iz: four bytes, or two with a 66 prefix, which W overrides.
abbrev pub sized : Prefixes → Opcode → ℕ
sized prefixes opcode = if prefixes.operand_size && not opcode.extension.w then 2 else 4

-- Iv, which MOV of a register alone has: eight bytes with W.
abbrev pub whole : Prefixes → Opcode → ℕ
whole prefixes opcode = if opcode.extension.w then 8 else sized prefixes opcode

-- Of group 3 only TEST has a number, which is /0 and /1.
abbrev pub if_test : ℕ → ℕ → ℕ
if_test reg size = if nat_lt reg 2 then size else 0

-- How many bytes of numbers there are. Addresses have eight bytes, or four with a 67 prefix; distances four.
abbrev pub immediate_size : Operands → Prefixes → Opcode → ℕ → ℕ
immediate_size Byte prefixes opcode reg = 1
immediate_size ModRmByte prefixes opcode reg = 1
immediate_size Word prefixes opcode reg = 2
immediate_size WordAndByte prefixes opcode reg = 3
immediate_size Sized prefixes opcode reg = sized prefixes opcode
immediate_size ModRmSized prefixes opcode reg = sized prefixes opcode
immediate_size Whole prefixes opcode reg = whole prefixes opcode
immediate_size Address prefixes opcode reg = if prefixes.address_size then 4 else 8
immediate_size Distance prefixes opcode reg = 4
immediate_size ModRmTestByte prefixes opcode reg = if_test reg 1
immediate_size ModRmTestSized prefixes opcode reg = if_test reg (sized prefixes opcode)
immediate_size _ prefixes opcode reg = 0

-- Near branches with a 66 prefix and no W have four bytes on Intel's processors and two on AMD's.
abbrev pub is_distance : Operands → Bool
is_distance Distance = true
is_distance _ = false

abbrev pub is_of_two_lengths : Operands → Prefixes → Opcode → Bool
is_of_two_lengths operands prefixes opcode = is_distance operands && prefixes.operand_size && not opcode.extension.w

-- With escapes. All of the maps 0F 38 and 0F 3A have a ModRM byte, those of the latter Ib too.
abbrev pub operands_of_legacy : Map → ℕ → Operands
operands_of_legacy OneByte byte = one_byte_map byte
operands_of_legacy TwoByte byte = two_byte_map byte
operands_of_legacy ThreeByte38 byte = ModRm
operands_of_legacy ThreeByte3A byte = ModRmByte
operands_of_legacy _ byte = Undefined

-- With a VEX or EVEX prefix. VZEROUPPER and VZEROALL, 77, alone have no ModRM byte. Maps 5 and 6 are of EVEX.
abbrev pub operands_of_vector : Encoding → Map → ℕ → Operands
operands_of_vector Vex TwoByte byte = if byte == 0x77 then Nothing else vector_map byte
operands_of_vector _ TwoByte byte = vector_map byte
operands_of_vector _ ThreeByte38 byte = ModRm
operands_of_vector _ ThreeByte3A byte = ModRmByte
operands_of_vector Evex Map5 byte = ModRm
operands_of_vector Evex Map6 byte = ModRm
operands_of_vector _ _ byte = Undefined

-- No VEX or EVEX prefix may follow 66, F0, F2, F3 or REX.
abbrev pub is_barred : Prefixes → Bool
is_barred prefixes = prefixes.operand_size || prefixes.lock || is_some prefixes.repeat || not (prefixes.rex == 0)

abbrev pub operands_by : Encoding → Prefixes → Opcode → Operands
operands_by Legacy prefixes opcode =
    let operands = operands_of_legacy opcode.map opcode.byte in
    if is_of_two_lengths operands prefixes opcode then Undefined else operands
operands_by Xop prefixes opcode = Undefined
operands_by _ prefixes opcode = if is_barred prefixes then Undefined else operands_of_vector opcode.encoding opcode.map opcode.byte

abbrev pub operands_of : Prefixes → Opcode → Operands
operands_of prefixes opcode = operands_by opcode.encoding prefixes opcode
