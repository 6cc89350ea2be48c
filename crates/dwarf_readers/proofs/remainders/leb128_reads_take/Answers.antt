use Rattle.dwarf_readers.proofs.Lengths.{signed_takes, skip_passes, unsigned_16_takes, unsigned_32_takes, unsigned_takes}
use Rattle.dwarf_readers.proofs.remainders.leb128_reads_take.Goals as goal

pub returns : goal.returns
returns c = record {
  unsigned = unsigned_takes;
  unsigned_16 = unsigned_16_takes;
  unsigned_32 = unsigned_32_takes;
  signed = signed_takes;
  skip = skip_passes;
}
