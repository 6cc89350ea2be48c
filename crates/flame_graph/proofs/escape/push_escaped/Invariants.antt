use Rattle.std.proofs.Common.{◌≡◌, ◌++◌, take}
use Rattle.flame_graph.specs.Escapes.{escaped}
use Rattle.flame_graph.proofs.escape.push_escaped.Given as goal

abbrev pub invariant-loop-byte : goal.invariant-loop-byte
invariant-loop-byte l = l.text.items ≡ l.fn.text.items ++ escaped (take l.byte-index l.name)
