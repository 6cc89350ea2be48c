use Rattle.dwarf_read_core.proofs.Following.{next_address_stays, next_set_stays, set_steady}
use Rattle.dwarf_read_core.proofs.more.address_sets_stay.Goals as goal

pub returns : goal.returns
returns c = record {
  set = set_steady;
  next_set = next_set_stays;
  next_address = next_address_stays;
}
