use Rattle.dwarf_call_frames.proofs.TruthfulRows.{has_rows, named_below, scanned_below}
use Rattle.dwarf_call_frames.proofs.truthful.truthful_headers_name_an_fde_below_all.Goals as goal

pub returns-clause-below : goal.returns-clause-below
returns-clause-below c t address none = record {
  by_header = λ some. named_below t.section t.bases t.header t.truthful some address none;
  by_scan = scanned_below t.section t.bases t.header t.truthful address none;
}

pub returns-clause-rows : goal.returns-clause-rows
returns-clause-rows c = λ t fde there. has_rows t.section t.bases t.header t.truthful fde there
