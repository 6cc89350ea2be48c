-- The operations of an expression, those that read memory among them (DWARF 5, 2.5.1.3; their bytes 7.7.1, table 7.9).
use Rattle.std.specs.Prelude.{ℕ, ◌==◌, ◌&&◌, Result, Ok, nat_le, if◌then◌else◌}
use Rattle.dwarf_constants.specs.declared.error.Error.{Error}
use Rattle.dwarf_constants.specs.declared.error.Error.TheVariants.{UnsupportedEvaluation}
use Rattle.dwarf_readers.specs.Operands.{Parse, one}
use Rattle.dwarf_readers.specs.Stretch.{Stretch, ◌>>=◌, byte_at, requirement}
use Rattle.dwarf_operations.specs.Operations.{operation_at}
use Rattle.framehop_expressions.specs.declared.operation.MemoryOperation.{MemoryOperation}
use Rattle.framehop_expressions.specs.declared.operation.MemoryOperation.TheVariants.{Plain, Deref}

-- DW_OP_deref: the word at the address on top
abbrev pub deref : ℕ
deref = 0x06

-- DW_OP_deref_size: the number in so many bytes there, which the operand says
abbrev pub deref_size : ℕ
deref_size = 0x94

-- the operand: no more bytes than an address has (2.5.1.3, 12)
abbrev pub sized_deref_at : Parse MemoryOperation
sized_deref_at s = do
  size ← byte_at s
  _ ← requirement (nat_le 1 size.0 && nat_le size.0 8) UnsupportedEvaluation
  Ok (Deref size.0, size.1)

-- the operation of an opcode that begins a stretch, and what is left after the opcode; all others read no memory
abbrev pub operation_of : ℕ → (all behind : Stretch) → Result (MemoryOperation × Stretch) Error
operation_of opcode all behind =
    if opcode == deref then Ok (Deref 8, behind)
    else if opcode == deref_size then sized_deref_at behind
    else one (operation_at 8) Plain all

-- the first operation, and what is left after it
abbrev pub memory_operation_at : Parse MemoryOperation
memory_operation_at s = do
  opcode ← byte_at s
  operation_of opcode.0 s opcode.1
