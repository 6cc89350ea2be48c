use Rattle.dwarf_call_frames.proofs.TruthfulRows.{named_contained, nearest_contained, scanned_contained}
use Rattle.dwarf_call_frames.proofs.truthful.contained_addresses_have_one_fde.Goals as goal

pub returns : goal.returns
returns c t address fde has = record {
  by_header = named_contained t.section t.bases t.header t.truthful address fde has.there has.inside;
  by_start = nearest_contained t.section t.bases t.header t.truthful address fde has.there has.inside;
  by_scan = scanned_contained t.section t.bases t.header t.truthful address fde has.there has.inside;
}
