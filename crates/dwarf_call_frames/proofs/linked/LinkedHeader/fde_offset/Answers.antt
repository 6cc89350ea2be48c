use Rattle.dwarf_call_frames.proofs.LinkedOffsets.{offset-named}
use Rattle.dwarf_call_frames.proofs.linked.LinkedHeader.fde_offset.Goals as goal

pub returns : goal.returns
returns c bases is =
    let reached = rw c.table_of-table.ensures at c.row_for-row.ensures.reached in
    let target = rw c.table_of-table.ensures at c.pointer_in.ensures in
    let named = offset-named bases c.args.bytes.now c.args.self.now is c.args.address c.row_for-row.result reached in
    rw named (rw target at c.offset_of.ensures)
