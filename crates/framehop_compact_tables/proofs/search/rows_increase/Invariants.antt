use Rattle.std.proofs.Common.{ℕ, ◌+◌, ◌<◌}
use Rattle.framehop_compact_tables.proofs.search.rows_increase.Given as goal

abbrev pub invariant-loop-next : goal.invariant-loop-next
invariant-loop-next g l = (row : ℕ) → row + 1 < l.next → g.T.Starts.start l.table row < g.T.Starts.start l.table (row + 1)
