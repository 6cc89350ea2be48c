use Rattle.std.proofs.Common.{◌≡◌, ℕ, ◌<◌, None, length}
use Rattle.std.specs.Prelude.{slice_get, slice_index_or}
use Rattle.framehop_whole_steps.specs.Registers.{registers}
use Rattle.backtrace_walks.proofs.numbered.numbered.Given as goal

abbrev pub invariant-loop-number : goal.invariant-loop-number
invariant-loop-number l = record {
  size : length l.known ≡ registers;
  values : (k : ℕ) → k < l.number → slice_index_or l.known k None ≡ slice_get l.values k;
}
