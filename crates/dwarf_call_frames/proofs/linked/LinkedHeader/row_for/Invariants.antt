use Rattle.std.proofs.Common.{ℕ}
use Rattle.dwarf_call_frames.specs.Linked.{linked_row}
use Rattle.dwarf_call_frames.proofs.RowsHalved.{Left}
use Rattle.dwarf_call_frames.proofs.linked.LinkedHeader.row_for.Given as goal

-- some starts were read, which nobody counts
abbrev pub invariant-halves : goal.invariant-halves
invariant-halves l = (reads : ℕ) × Left (linked_row l.self l.table) l.address l.self.count l.first l.count 0 reads

abbrev pub decreases-halves : goal.decreases-halves
decreases-halves l = l.count
