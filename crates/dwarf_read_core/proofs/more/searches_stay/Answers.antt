use Rattle.dwarf_read_core.proofs.Following.{address_in_steady, range_in_steady, string_in_steady, string_offset_in_steady}
use Rattle.dwarf_read_core.proofs.more.searches_stay.Goals as goal

pub returns : goal.returns
returns c = record {
  string = string_in_steady;
  string_offset = string_offset_in_steady;
  address = address_in_steady;
  range = range_in_steady;
}
