use Rattle.dwarf_call_frames.proofs.TruthfulRows.{named_nearest, scanned_outside}
use Rattle.dwarf_call_frames.proofs.truthful.truthful_headers_name_the_nearest_fde.Goals as goal

pub returns : goal.returns
returns c t address fde near = record {
  by_header = named_nearest t.section t.bases t.header t.truthful address fde near;
  by_scan = scanned_outside t.section t.bases t.header t.truthful address fde near;
}
