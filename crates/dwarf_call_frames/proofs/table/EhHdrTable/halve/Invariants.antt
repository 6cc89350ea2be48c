use Rattle.dwarf_call_frames.specs.HeaderTable.{row_at_index, header_table}
use Rattle.dwarf_call_frames.proofs.RowsHalved.{Left}
use Rattle.dwarf_call_frames.proofs.table.EhHdrTable.halve.Given as goal

abbrev pub invariant-halves : goal.invariant-halves
invariant-halves g l =
    Left (row_at_index g.R.Offset.ReaderOffset.limit l.size (header_table l.bases.eh_frame_hdr l.self)) l.address l.self.count l.first l.count l.fn.steps l.steps

abbrev pub decreases-halves : goal.decreases-halves
decreases-halves g l = l.count
