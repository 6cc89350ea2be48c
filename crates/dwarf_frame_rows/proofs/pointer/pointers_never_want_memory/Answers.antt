use Rattle.dwarf_frame_rows.proofs.PointerMemory.{direct_memory, encoding_memory, plain_value_memory, pointer_memory, value_memory}
use Rattle.dwarf_frame_rows.proofs.pointer.pointers_never_want_memory.Goals as goal

pub returns : goal.returns
returns c = record {
  encoding = encoding_memory;
  value = value_memory;
  pointer = pointer_memory;
  plain_value = plain_value_memory;
  direct = direct_memory;
}
