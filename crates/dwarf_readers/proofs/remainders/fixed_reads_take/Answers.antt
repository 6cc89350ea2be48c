use Rattle.dwarf_readers.proofs.Lengths.{behind_passes, byte_takes, bytes_takes, number_takes, signed_byte_takes, signed_number_takes, split_takes}
use Rattle.dwarf_readers.proofs.remainders.fixed_reads_take.Goals as goal

pub returns : goal.returns
returns c = record {
  byte = byte_takes;
  signed_byte = signed_byte_takes;
  number = number_takes;
  signed_number = signed_number_takes;
  bytes = bytes_takes;
  split = split_takes;
  behind = behind_passes;
}
