use Rattle.std.proofs.Common.{◌≡◌, drop}
use Rattle.framehop_x86_ways.specs.Values.{held_after_all, held_after_way}
use Rattle.framehop_x86_ways.proofs.values.Held.after.Given as goal

abbrev pub invariant-loop-one : goal.invariant-loop-one
invariant-loop-one l = held_after_all (drop l.one-index l.way) l.held.values l.held.saved.items ≡ held_after_way l.way
