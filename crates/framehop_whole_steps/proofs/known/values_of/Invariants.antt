use Rattle.std.proofs.Common.{◌≡◌, ℕ, ◌<◌, None, length}
use Rattle.std.specs.Prelude.{slice_index_or}
use Rattle.framehop_expressions.specs.Registers.{known}
use Rattle.framehop_whole_steps.specs.Registers.{registers}
use Rattle.framehop_whole_steps.proofs.known.values_of.Given as goal

abbrev pub invariant-loop-number : goal.invariant-loop-number
invariant-loop-number l = record {
  size : length l.values ≡ registers;
  values : (k : ℕ) → k < l.number → slice_index_or l.values k None ≡ known l.registers k;
}
