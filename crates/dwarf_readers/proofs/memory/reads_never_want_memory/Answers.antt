use Rattle.dwarf_readers.proofs.ReadMemory.{address_memory, address_size_memory, as_offset_memory, behind_memory, byte_memory, initial_length_memory, number_memory, offset_memory, signed_memory, signed_number_memory, split_memory, string_memory, unsigned_16_memory, unsigned_memory}
use Rattle.dwarf_readers.proofs.memory.reads_never_want_memory.Goals as goal

pub returns : goal.returns
returns c = record {
  byte = byte_memory;
  number = number_memory;
  signed_number = signed_number_memory;
  behind = behind_memory;
  split = split_memory;
  unsigned = unsigned_memory;
  unsigned_16 = unsigned_16_memory;
  signed = signed_memory;
  string = string_memory;
  offset = offset_memory;
  as_offset = as_offset_memory;
  address_size = address_size_memory;
  address = address_memory;
  initial_length = initial_length_memory;
}
