use Rattle.std.proofs.Common.{◌≡◌}
use Rattle.dwarf_frame_instructions.specs.ProgramRows.{program_of, rows_left, steps_left}
use Rattle.dwarf_frame_instructions.specs.Programs.{row_among, row_for}
use Rattle.dwarf_frame_instructions.proofs.rows.row_for_address.Given as goal

-- the row is the same among the rows that are left
abbrev pub invariant-loop-rows : goal.invariant-loop-rows
invariant-loop-rows g l =
    let limits = g.S.UnwindContextStorage.limits in
    row_among l.address (rows_left g.R.Reader.stretch g.R.Offset.ReaderOffset.limit g.R.Offset.ReaderOffset.value g.S-Stack-ArrayLike.items limits l.rows)
    ≡ row_for limits (program_of l.fn.program) l.address

abbrev pub decreases-loop-rows : goal.decreases-loop-rows
decreases-loop-rows g l = steps_left g.R.Reader.stretch g.R.Offset.ReaderOffset.limit l.rows
