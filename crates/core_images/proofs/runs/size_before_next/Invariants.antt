use Rattle.std.proofs.Common.{ℕ, ◌+◌, ◌<◌, ◌≤◌, get_or}
use Rattle.core_files.specs.declared.memory_range.MemoryRange.{MemoryRange}
use Rattle.core_images.proofs.runs.size_before_next.Given as goal

abbrev pub invariant-loop-segment : goal.invariant-loop-segment
invariant-loop-segment l = record {
  most : l.left ≤ l.size;
  some : 0 < l.size → 0 < l.left;
  none : (i : ℕ) (d : MemoryRange) → i < l.segment-index → l.address < (get_or l.segments i d).address → l.address + l.left ≤ (get_or l.segments i d).address;
}
