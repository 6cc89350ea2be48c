use Rattle.std.proofs.Common.{◌≡◌, ◌+◌, drop}
use Rattle.std.specs.List.{common_prefix_len}
use Rattle.flame_graph.specs.Stacks.{shared, texts}
use Rattle.flame_graph.proofs.LentNames.{same_now}
use Rattle.flame_graph.proofs.names.shared_count.Given as goal

-- all names so far are shared
abbrev pub invariant-loop-i : goal.invariant-loop-i
invariant-loop-i l = shared (texts l.left) (texts l.right) ≡ l.i + common_prefix_len same_now (drop l.i l.left) (drop l.i l.right)
