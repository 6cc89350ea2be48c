-- What an encoding of aarch64 says, by its bit fields (compact_unwind_encoding.h, UNWIND_ARM64_*).
use Rattle.std.specs.Prelude.{ℕ, ◌==◌, if◌then◌else◌}
use Rattle.framehop_compact.specs.Opcodes.{bits, kind_of}
use Rattle.framehop_compact.specs.declared.aarch64.opcode.OpcodeArm64.{OpcodeArm64}
use Rattle.framehop_compact.specs.declared.aarch64.opcode.OpcodeArm64.TheVariants.{Null, Frameless, Dwarf, FrameBased, UnrecognizedKind}

-- What an encoding says, by its kind. The stack size is FRAMELESS_STACK_SIZE, the offset DWARF_SECTION_OFFSET.
abbrev pub opcode_of : ℕ → OpcodeArm64
opcode_of encoding =
    if kind_of encoding == 0 then Null else
    if kind_of encoding == 2 then Frameless (bits encoding 12 12) else
    if kind_of encoding == 3 then Dwarf (bits encoding 0 24) else
    if kind_of encoding == 4 then FrameBased else
    UnrecognizedKind (kind_of encoding)
