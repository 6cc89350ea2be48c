use Rattle.std.proofs.Common.{◌≡◌, ◌<◌, ◌^◌, take}
use Rattle.flame_graph.specs.Stacks.{samples}
use Rattle.flame_graph.proofs.stack.total.Given as goal

-- the sum so far is that of the stacks so far
abbrev pub invariant-loop-stack : goal.invariant-loop-stack
invariant-loop-stack l = record {
  so_far : l.sum ≡ samples (take l.stack-index l.stacks);
  fits : l.sum < 2 ^ 64;
}
