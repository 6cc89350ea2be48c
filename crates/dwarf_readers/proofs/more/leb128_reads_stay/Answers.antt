use Rattle.dwarf_readers.proofs.Following.{signed_steady, skip_steady, unsigned_16_steady, unsigned_32_steady, unsigned_steady}
use Rattle.dwarf_readers.proofs.more.leb128_reads_stay.Goals as goal

pub returns : goal.returns
returns c = record {
  unsigned = unsigned_steady;
  unsigned_16 = unsigned_16_steady;
  unsigned_32 = unsigned_32_steady;
  signed = signed_steady;
  skip = skip_steady;
}
