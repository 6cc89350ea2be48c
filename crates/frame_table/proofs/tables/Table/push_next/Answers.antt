use Rattle.frame_table.specs.TableViews.{table_view}
use Rattle.frame_table.proofs.Rows.{shows_next}
use Rattle.frame_table.proofs.tables.Table.push_next.Goals as goal

pub returns-clause-next : goal.returns-clause-next
returns-clause-next g c =
    let stretch = g.R.Reader.stretch in
    let limit = g.R.Offset.ReaderOffset.limit in
    let number = g.R.Offset.ReaderOffset.value in
    let items = g.S-Stack-ArrayLike.items in
    let limits = g.S.UnwindContextStorage.limits in
    let fixed = g.S.UnwindContextStorage.never_allocates in
    shows_next stretch limit number items limits fixed c.args.rows.now c.advance.new.self (table_view c.args.self.now) c.advance.result c.in_ok-answer.answer c.args.text.now.items c.push_current.new.text.items
    c.advance.ensures.row c.in_ok-answer.ensures.same c.in_ok-answer.ensures.memory c.in_ok-push_current.ensures
