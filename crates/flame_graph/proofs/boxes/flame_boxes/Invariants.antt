use Rattle.std.proofs.Common.{◌≡◌, drop, map, reverse, take}
use Rattle.flame_graph.specs.Boxes.{box_view, boxes_from}
use Rattle.flame_graph.specs.Opened.{ends_of, first_names, names_before}
use Rattle.flame_graph.specs.Stacks.{samples, shared}
use Rattle.flame_graph.proofs.boxes.flame_boxes.Given as goal

-- the boxes that begin with the stacks that are done, from the last one on
abbrev pub invariant-loop-place : goal.invariant-loop-place
invariant-loop-place l = record {
  boxes : map box_view l.boxes.items ≡ reverse (boxes_from (names_before l.place l.stacks) l.start (drop l.place l.stacks));
  ends : l.ends.items ≡ ends_of l.start (drop l.place l.stacks);
  kept : l.kept ≡ shared (names_before l.place l.stacks) (first_names (drop l.place l.stacks));
  start : l.start ≡ samples (take l.place l.stacks);
}
