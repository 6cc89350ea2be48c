use Rattle.std.proofs.Common.{◌≡◌, ◌++◌, replicate, take}
use Rattle.flame_graph.proofs.boxes.refill.Given as goal

abbrev pub invariant-loop : goal.invariant-loop
invariant-loop l = l.ends.items ≡ take l.kept l.fn.ends.items ++ replicate l.counter l.place
