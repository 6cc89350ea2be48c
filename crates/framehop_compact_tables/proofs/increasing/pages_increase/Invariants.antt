use Rattle.std.proofs.Common.{ℕ, ◌<◌}
use Rattle.framehop_compact_tables.specs.Increasing.{HasIncreasingPage}
use Rattle.framehop_compact_tables.proofs.increasing.pages_increase.Given as goal

abbrev pub invariant-loop-row : goal.invariant-loop-row
invariant-loop-row l = (row : ℕ) → row < l.row → HasIncreasingPage l.index.bytes.now row
