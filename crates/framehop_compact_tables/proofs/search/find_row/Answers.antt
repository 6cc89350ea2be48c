use Rattle.framehop_compact_tables.proofs.Halving.{found-if-some}
use Rattle.framehop_compact_tables.proofs.search.find_row.Goals as goal

pub returns-then-increasing-clause-last : goal.returns-then-increasing-clause-last
returns-then-increasing-clause-last g c =
    found-if-some (g.T.Starts.count c.args.table.now) (g.T.Starts.start c.args.table.now) c.args.address c.last_row_increasing.result c.last_row_increasing.ensures.row

pub returns-else-increasing-clause-last : goal.returns-else-increasing-clause-last
returns-else-increasing-clause-last g c =
    found-if-some (g.T.Starts.count c.args.table.now) (g.T.Starts.start c.args.table.now) c.args.address c.last_row.result c.last_row.ensures
