use Rattle.std.proofs.Common.{Bool, Ok, ap, ◌∙◌}
use Rattle.dwarf_frame_instructions.specs.ProgramRows.{program_of, rows_left}
use Rattle.dwarf_frame_instructions.specs.Programs.{rows_of_program}
use Rattle.frame_table.specs.TableViews.{table_view}
use Rattle.frame_table.proofs.Rows.{goes_on}
use Rattle.frame_table.proofs.tables.Table.push_rows.Goals as goal

pub rows-preserved : goal.rows-preserved
rows-preserved g c =
    let limits = g.S.UnwindContextStorage.limits in
    let left = λ (rows : _). rows_left g.R.Reader.stretch g.R.Offset.ReaderOffset.limit g.R.Offset.ReaderOffset.value g.S-Stack-ArrayLike.items limits rows in
    let was = c.rows.invariant in
    goes_on (left c.push_next.new.rows) (table_view c.args.self.now)
    (left c.rows.rows) (rows_of_program limits (program_of c.args.program)) c.in_ok-push_next.field-0 c.rows.text.items c.push_next.new.text.items _
    c.in_ok-push_next.ensures.next (c.in-Ok-true.is ∙ ap (λ (b : Bool). Ok b) c.in-Ok-true.field-0-test) was.0 was.1
