use Rattle.std.proofs.Common.{ℕ, ◌+◌, ◌-◌, ◌<◌, ◌≤◌, length, get_or}
use Rattle.framehop_index.specs.declared.cfi_index.IndexedFde.{IndexedFde}
use Rattle.framehop_index.proofs.cfi_index.starts_rise.Given as goal

abbrev pub invariant-rising : goal.invariant-rising
invariant-rising l = record {
  some : 1 ≤ l.rising;
  steps : (k : ℕ) (d : IndexedFde) → k + 1 < l.rising → k + 1 < length l.fdes → (get_or l.fdes k d).start < (get_or l.fdes (k + 1) d).start;
}

abbrev pub decreases-rising : goal.decreases-rising
decreases-rising l = length l.fdes - l.rising
