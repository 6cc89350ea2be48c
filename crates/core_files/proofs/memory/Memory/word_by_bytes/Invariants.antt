use Rattle.std.proofs.Common.{◌≡◌, ℕ, ◌+◌, ◌<◌, length, get_or}
use Rattle.std.specs.Prelude.{Some}
use Rattle.core_files.specs.MemoryViews.{byte_of}
use Rattle.core_files.proofs.memory.Memory.word_by_bytes.Given as goal

abbrev pub invariant-loop-place : goal.invariant-loop-place
invariant-loop-place l = record {
  size : length l.bytes ≡ 8;
  known : (k : ℕ) → k < l.place → byte_of l.self (l.address + k) ≡ Some (get_or l.bytes k 0);
}
