use Rattle.std.proofs.Common.{◌≡◌, ℕ, ◌<◌, None, length}
use Rattle.std.specs.Prelude.{option_and_then, slice_get, slice_index_or}
use Rattle.core_files.specs.MemoryViews.{word_of}
use Rattle.framehop_whole_steps.specs.Registers.{registers}
use Rattle.backtrace_walks.specs.Signals.{word_above}
use Rattle.backtrace_walks.proofs.saved.saved_by.Given as goal

abbrev pub invariant-loop-number : goal.invariant-loop-number
invariant-loop-number l = record {
  size : length l.saved ≡ registers;
  values : (k : ℕ) → k < l.number → slice_index_or l.saved k None ≡ option_and_then (word_above (word_of l.memory) l.sp) (slice_get l.distances k);
}
