use Rattle.std.proofs.Common.{◌≡◌, drop}
use Rattle.std.specs.Prelude.{fold}
use Rattle.framehop_x86_ways.specs.Values.{value_behind, word_at}
use Rattle.framehop_x86_ways.proofs.values.word_at.Given as goal

abbrev pub invariant-loop-one : goal.invariant-loop-one
invariant-loop-one l = fold (value_behind l.slot.0 l.slot.1) l.value (drop l.one-index l.saved) ≡ word_at l.saved l.slot.0 l.slot.1
