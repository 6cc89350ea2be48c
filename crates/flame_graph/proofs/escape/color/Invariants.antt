use Rattle.std.proofs.Common.{◌≡◌, ◌+◌, ◌*◌, ◌<◌, ◌%◌, take}
use Rattle.std.specs.List.{fold}
use Rattle.flame_graph.proofs.escape.color.Given as goal

abbrev pub invariant-loop-byte : goal.invariant-loop-byte
invariant-loop-byte l = record {
  so_far : l.hash ≡ fold (λ hash byte. (hash * 31 + byte) % 65521) 0 (take l.byte-index l.name);
  small : l.hash < 65521;
}
