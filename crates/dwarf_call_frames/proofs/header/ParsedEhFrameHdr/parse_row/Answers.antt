use Rattle.std.proofs.Common.{arith}
use Rattle.dwarf_call_frames.specs.HeaderTable.{header_table}
use Rattle.dwarf_readers.proofs.Laws.{on_is}
use Rattle.dwarf_frame_rows.proofs.Laws.{pointer_on}
use Rattle.dwarf_call_frames.proofs.header.ParsedEhFrameHdr.parse_row.Goals as goal

pub parse_pointer-requires-2 : goal.parse_pointer-requires-2
parse_pointer-requires-2 g c =
    let table = header_table c.args.bases.now.eh_frame_hdr c.args.self.now in
    let on = on_is (pointer_on table.origins table.encoding (g.R.Reader.stretch c.args.input.now)) c.in_ok-start.ensures.read in
    omega (arith, c.requires)
