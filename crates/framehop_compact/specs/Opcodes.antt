-- What an encoding of x86_64 says, by its bit fields (compact_unwind_encoding.h, UNWIND_X86_64_*).
use Rattle.std.specs.Prelude.{ℕ, ◌*◌, ◌/◌, ◌%◌, ◌^◌, ◌==◌, Bool, true, false, if◌then◌else◌, List, Option, Some, None}
use Rattle.framehop_compact.specs.SavedRegisters.{registers_of, saved_after_bp}
use Rattle.framehop_compact.specs.declared.x86_64.opcode.OpcodeX86_64.{OpcodeX86_64}
use Rattle.framehop_compact.specs.declared.x86_64.opcode.OpcodeX86_64.TheVariants.{Null, FrameBased, FramelessImmediate, FramelessIndirect, Dwarf, InvalidFrameless, UnrecognizedKind}
use Rattle.framehop_compact.specs.declared.x86_64.saved_registers.RegisterNameX86_64.{RegisterNameX86_64}

-- So many bits from a bit on.
abbrev pub bits : ℕ → ℕ → ℕ → ℕ
bits encoding low count = encoding / 2 ^ low % 2 ^ count

-- The kind (MODE_MASK).
abbrev pub kind_of : ℕ → ℕ
kind_of encoding = bits encoding 24 4

-- The registers that are saved (FRAMELESS_STACK_REG_COUNT and FRAMELESS_STACK_REG_PERMUTATION).
abbrev pub saved_registers : ℕ → Option (List RegisterNameX86_64)
saved_registers encoding = registers_of (bits encoding 10 3) (bits encoding 0 10)

-- The stack size stands in the encoding, in words (FRAMELESS_STACK_SIZE).
abbrev pub immediate : ℕ → Option ℕ → OpcodeX86_64
immediate encoding after_bp = FramelessImmediate (bits encoding 16 8) after_bp

-- It stands in the code, at the offset that FRAMELESS_STACK_SIZE is, and FRAMELESS_STACK_ADJUST words are added to it.
abbrev pub indirect : ℕ → Option ℕ → OpcodeX86_64
indirect encoding after_bp = FramelessIndirect (bits encoding 16 8) (8 * bits encoding 13 3) after_bp

-- Either, by the registers that are saved.
abbrev pub with_saved : ℕ → Bool → Option (List RegisterNameX86_64) → OpcodeX86_64
with_saved encoding is_indirect None = InvalidFrameless
with_saved encoding true (Some registers) = indirect encoding (saved_after_bp registers)
with_saved encoding false (Some registers) = immediate encoding (saved_after_bp registers)

-- What an encoding of a function without a frame says.
abbrev pub frameless : ℕ → Bool → OpcodeX86_64
frameless encoding is_indirect = with_saved encoding is_indirect (saved_registers encoding)

-- What an encoding says, by its kind.
abbrev pub opcode_of : ℕ → OpcodeX86_64
opcode_of encoding =
    if kind_of encoding == 0 then Null else
    if kind_of encoding == 1 then FrameBased else
    if kind_of encoding == 2 then frameless encoding false else
    if kind_of encoding == 3 then frameless encoding true else
    if kind_of encoding == 4 then Dwarf (bits encoding 0 24) else
    UnrecognizedKind (kind_of encoding)
