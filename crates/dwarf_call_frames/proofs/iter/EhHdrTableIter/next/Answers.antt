use Rattle.std.proofs.Common.{◌≡◌, arith}
use Rattle.dwarf_call_frames.specs.HeaderTable.{left_by_row, header_table}
use Rattle.dwarf_readers.proofs.Laws.{on_is}
use Rattle.dwarf_call_frames.proofs.Onward.{left_by_row_on, row_on}
use Rattle.dwarf_call_frames.proofs.iter.EhHdrTableIter.next.Goals as goal

pub invariant_of-self : goal.invariant_of-self
invariant_of-self g c =
    let table = header_table c.self.inside.bases.now.eh_frame_hdr c.self.inside.hdr.now in
    let s = g.R.Reader.stretch c.self.inside.table in
    let on = left_by_row_on table.origins table.encoding s in
    let left : g.R.Reader.stretch c.parse_row.new.input ≡ left_by_row table.origins table.encoding s = c.in_err-row.ensures.refused in
    rw left (omega (arith, c.self.invariant))

pub invariant_of-self-2 : goal.invariant_of-self-2
invariant_of-self-2 g c =
    let table = header_table c.self.inside.bases.now.eh_frame_hdr c.self.inside.hdr.now in
    let on = on_is (row_on table.origins table.encoding (g.R.Reader.stretch c.self.inside.table)) c.in_ok-row.ensures.read in
    omega (arith, c.self.invariant)
