use Rattle.dwarf_readers.proofs.Lengths.{address_size_takes, address_takes, address_takes_one, initial_length_takes, sized_offset_takes, word_takes}
use Rattle.dwarf_readers.proofs.remainders.lengths_take.Goals as goal

pub returns : goal.returns
returns c = record {
  initial_length = initial_length_takes;
  word = word_takes;
  sized_offset = sized_offset_takes;
  address_size = address_size_takes;
  address = address_takes;
  address_one = address_takes_one;
}
