use Rattle.std.proofs.Common.{◌≡◌, ◌++◌}
use Rattle.dwarf_frame_instructions.specs.ProgramRows.{program_of, rows_left, steps_left}
use Rattle.dwarf_frame_instructions.specs.Programs.{rows_of_program}
use Rattle.frame_table.specs.TableViews.{table_view}
use Rattle.frame_table.specs.Tables.{row_lines}
use Rattle.frame_table.proofs.tables.Table.push_rows.Given as goal

-- the lines so far and those of the rows that are left make the lines of all rows, and the refusal is the same
abbrev pub invariant-rows : goal.invariant-rows
invariant-rows g l =
    let limits = g.S.UnwindContextStorage.limits in
    let all = rows_of_program limits (program_of l.fn.program) in
    let left = rows_left g.R.Reader.stretch g.R.Offset.ReaderOffset.limit g.R.Offset.ReaderOffset.value g.S-Stack-ArrayLike.items limits l.rows in
    (left.refusal ≡ all.refusal)
    × (l.text.items ++ row_lines (table_view l.self) left.rows ≡ l.fn.text.items ++ row_lines (table_view l.self) all.rows)

abbrev pub decreases-rows : goal.decreases-rows
decreases-rows g l = steps_left g.R.Reader.stretch g.R.Offset.ReaderOffset.limit l.rows
