use Rattle.std.proofs.Common.{◌≡◌, drop, []}
use Rattle.framehop_ways.specs.Values.{held_after_all, values_now}
use Rattle.framehop_ways.proofs.values.values_after.Given as goal

abbrev pub invariant-loop-one : goal.invariant-loop-one
invariant-loop-one l =
    held_after_all (drop l.one-index l.way) l.held.values l.held.saved.items ≡ held_after_all l.way values_now []
