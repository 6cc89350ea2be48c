use Rattle.dwarf_call_frames.proofs.HeadersAndScans.{header_as_scan}
use Rattle.dwarf_call_frames.proofs.truthful.truthful_headers_find_as_scans_do.Goals as goal

pub returns : goal.returns
returns c = λ t address. header_as_scan t.section t.bases t.header t.truthful address
