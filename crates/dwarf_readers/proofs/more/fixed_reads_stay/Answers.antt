use Rattle.dwarf_readers.proofs.Following.{behind_steady, byte_steady, bytes_steady, front_steady, number_steady, signed_byte_steady, signed_number_steady, split_steady}
use Rattle.dwarf_readers.proofs.more.fixed_reads_stay.Goals as goal

pub returns : goal.returns
returns c = record {
  byte = byte_steady;
  signed_byte = signed_byte_steady;
  number = number_steady;
  signed_number = signed_number_steady;
  bytes = bytes_steady;
  behind = behind_steady;
  first = front_steady;
  split = split_steady;
}
