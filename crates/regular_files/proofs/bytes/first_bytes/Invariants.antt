use Rattle.std.proofs.Common.{◌≤◌, ◌-◌, vec_len}
use Rattle.regular_files.proofs.bytes.first_bytes.Given as goal

-- no more than was asked for
abbrev pub invariant-pieces : goal.invariant-pieces
invariant-pieces l = vec_len l.bytes ≤ l.size

abbrev pub decreases-pieces : goal.decreases-pieces
decreases-pieces l = l.size - vec_len l.bytes
