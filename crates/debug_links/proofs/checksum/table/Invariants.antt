use Rattle.std.proofs.Common.{◌≡◌, ℕ, ◌<◌, get_or, length}
use Rattle.debug_links.specs.Checksums.{entry_of}
use Rattle.debug_links.proofs.checksum.table.Given as goal

-- the entries so far are there
abbrev pub invariant-loop-index : goal.invariant-loop-index
invariant-loop-index l = (length l.table ≡ 256) × ((k : ℕ) → k < l.index → get_or l.table k 0 ≡ entry_of k)
