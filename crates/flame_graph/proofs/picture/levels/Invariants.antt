use Rattle.std.proofs.Common.{◌≡◌, ◌<◌, ◌^◌, drop, map, max}
use Rattle.flame_graph.specs.Boxes.{box_view}
use Rattle.flame_graph.specs.Pictures.{deepest}
use Rattle.flame_graph.proofs.picture.levels.Given as goal

abbrev pub invariant-loop-flame : goal.invariant-loop-flame
invariant-loop-flame l = record {
  all : max l.most (deepest l.total (map box_view (drop l.flame-index l.boxes))) ≡ deepest l.total (map box_view l.boxes);
  small : l.most < 2 ^ 65;
}
