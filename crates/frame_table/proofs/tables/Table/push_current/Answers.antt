use Rattle.frame_table.specs.TableViews.{table_view}
use Rattle.frame_table.proofs.Rows.{same_if_given}
use Rattle.frame_table.proofs.tables.Table.push_current.Goals as goal

pub returns-in-Some : goal.returns-in-Some
returns-in-Some g c =
    same_if_given g.R.Offset.ReaderOffset.value (table_view c.args.self.now) c.in-Some.row.now _ c.push_row.result c.args.text.now.items c.push_row.new.text.items c.in-Some.ensures c.push_row.ensures
