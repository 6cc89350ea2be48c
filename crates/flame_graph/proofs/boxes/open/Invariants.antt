use Rattle.std.proofs.Common.{◌≡◌, ◌≤◌, ◌++◌, map}
use Rattle.flame_graph.specs.Boxes.{box_view}
use Rattle.flame_graph.specs.Opened.{opened}
use Rattle.flame_graph.specs.Stacks.{texts}
use Rattle.flame_graph.proofs.boxes.open.Given as goal

abbrev pub invariant-loop-depth : goal.invariant-loop-depth
invariant-loop-depth l = record {
  boxes : map box_view l.boxes.items ≡ map box_view l.fn.boxes.items ++ opened (texts l.names) l.ends l.start l.depth;
  low : l.kept ≤ l.depth;
}
