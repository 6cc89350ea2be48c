use Rattle.dwarf_read_core.proofs.Following.{attributes_steady, table_in_stays, table_stays}
use Rattle.dwarf_read_core.proofs.more.abbreviation_tables_stay.Goals as goal

pub returns : goal.returns
returns c = record {
  attributes = attributes_steady;
  table = table_stays;
  table_in = table_in_stays;
}
