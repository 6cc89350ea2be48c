use Rattle.dwarf_frame_entries.specs.UnwindTables.{table_steps}
use Rattle.bench_steps.proofs.frames.passes.count_rows.Given as goal

-- each row that is given leaves fewer steps
abbrev pub decreases-rows : goal.decreases-rows
decreases-rows g l = table_steps g.R.Reader.stretch g.R.Offset.ReaderOffset.limit l.table
