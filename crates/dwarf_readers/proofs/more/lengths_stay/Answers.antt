use Rattle.dwarf_readers.proofs.Following.{address_size_steady, address_steady, initial_length_steady, sized_offset_steady, word_steady}
use Rattle.dwarf_readers.proofs.more.lengths_stay.Goals as goal

pub returns : goal.returns
returns c = record {
  initial_length = initial_length_steady;
  word = word_steady;
  sized_offset = sized_offset_steady;
  address_size = address_size_steady;
  address = address_steady;
}
