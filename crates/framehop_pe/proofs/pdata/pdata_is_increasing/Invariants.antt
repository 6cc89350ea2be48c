use Rattle.std.proofs.Common.{ℕ, ◌+◌, ◌<◌, ◌≤◌}
use Rattle.framehop_pe.specs.Rows.{begin_at, end_at}
use Rattle.framehop_pe.proofs.pdata.pdata_is_increasing.Given as goal

abbrev pub invariant-loop-next : goal.invariant-loop-next
invariant-loop-next l = (row : ℕ) → row + 1 < l.next → (begin_at l.bytes row < begin_at l.bytes (row + 1)) × (end_at l.bytes row ≤ begin_at l.bytes (row + 1))
