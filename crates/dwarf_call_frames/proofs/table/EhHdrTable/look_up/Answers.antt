use Rattle.std.proofs.Common.{arith}
use Rattle.dwarf_call_frames.specs.HeaderTable.{row_at_index, rows_by_index, header_table}
use Rattle.dwarf_call_frames.proofs.Halves.{few_reads}
use Rattle.dwarf_call_frames.proofs.RowsBetween.{length-between}
use Rattle.dwarf_call_frames.proofs.table.EhHdrTable.look_up.Goals as goal

pub returns-clause-few : goal.returns-clause-few
returns-clause-few g c k few =
    let limit = g.R.Offset.ReaderOffset.limit in
    let table = header_table c.args.bases.now.eh_frame_hdr c.args.self.now in
    let rows = rows_by_index limit c.in_ok-size.size table in
    let len = length-between (row_at_index limit c.in_ok-size.size table) 0 table.count in
    let less = few_reads c.args.address k rows (omega (arith, len, few)) in
    omega (arith, c.halve.ensures.counted, less)
