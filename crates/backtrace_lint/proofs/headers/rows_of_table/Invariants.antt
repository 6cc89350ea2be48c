use Rattle.std.proofs.Common.{◌≡◌, ◌-◌}
use Rattle.dwarf_call_frames.specs.HeaderTable.{header_table}
use Rattle.backtrace_lint.specs.HeaderViews.{before_rows}
use Rattle.backtrace_lint.specs.Headers.{rows_of_table, rows_within}
use Rattle.backtrace_lint.proofs.headers.rows_of_table.Given as goal

-- the rows that were read, before those that are left
abbrev pub invariant-loop-index : goal.invariant-loop-index
invariant-loop-index g l =
    let t = header_table l.bases.eh_frame_hdr l.table in
    before_rows l.rows.items (rows_within g.R.Offset.ReaderOffset.limit (t.count - l.index) l.index t) ≡ rows_of_table g.R.Offset.ReaderOffset.limit t
