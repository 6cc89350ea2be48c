use Rattle.dwarf_readers.proofs.Onward.{address_on, address_size_on, byte_on, number_on, signed_number_on, signed_on, split_on, string_on, unsigned_16_on, unsigned_on}
use Rattle.dwarf_readers.proofs.remainders.reads_go_on.Goals as goal

pub returns : goal.returns
returns c = record {
  byte = byte_on;
  number = number_on;
  signed_number = signed_number_on;
  split = split_on;
  unsigned = unsigned_on;
  unsigned_16 = unsigned_16_on;
  signed = signed_on;
  string = string_on;
  address_size = address_size_on;
  address = address_on;
}
