use Rattle.std.proofs.Common.{◌≡◌, ◌<◌, ◌≤◌, ◌+◌, ◌-◌, ◌^◌, ℕ, length, take, slice_index}
use Rattle.dwarf_readers.specs.Leb128.{unsigned_value}
use Rattle.dwarf_readers.specs.Stretch.{behind}
use Rattle.dwarf_readers.proofs.leb128.read.read_groups.Given as goal

-- so many bytes were read, all of 128 and more but the last
abbrev pub invariant-loop-last : goal.invariant-loop-last
invariant-loop-last g l =
    let stretch = g.R.Reader.stretch in
    record {
      count : l.count < l.most;
      inside : l.count < length (stretch l.fn.r).bytes;
      marked : (k : ℕ) → k < l.count → 128 ≤ slice_index (stretch l.fn.r).bytes k;
      low : l.low ≡ unsigned_value (take l.count (stretch l.fn.r).bytes);
      below : l.low < 128 ^ l.count;
      last : l.last ≡ slice_index (stretch l.fn.r).bytes l.count;
      left : stretch l.r ≡ behind (l.count + 1) (stretch l.fn.r);
    }

abbrev pub decreases-loop-last : goal.decreases-loop-last
decreases-loop-last g l = l.most - l.count
