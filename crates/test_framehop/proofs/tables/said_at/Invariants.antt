use Rattle.std.proofs.Common.{◌≡◌, drop}
use Rattle.test_framehop.specs.Tables.{said_at}
use Rattle.test_framehop.proofs.tables.said_at.Given as goal

-- no row so far is of the address
abbrev pub invariant-loop-row : goal.invariant-loop-row
invariant-loop-row l = said_at (drop l.row-index l.rows) l.address ≡ said_at l.rows l.address
