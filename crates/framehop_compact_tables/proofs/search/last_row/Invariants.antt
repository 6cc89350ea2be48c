use Rattle.std.proofs.Common.{◌≡◌, ◌≤◌}
use Rattle.framehop_compact_tables.specs.Rows.{last_row}
use Rattle.framehop_compact_tables.proofs.search.last_row.Given as goal

abbrev pub invariant-rows : goal.invariant-rows
invariant-rows g l = record {
  within : l.left ≤ g.T.Starts.count l.table;
  same : last_row l.left (g.T.Starts.start l.table) l.fn.address ≡ last_row (g.T.Starts.count l.table) (g.T.Starts.start l.table) l.fn.address;
}

abbrev pub decreases-rows : goal.decreases-rows
decreases-rows g l = l.left
