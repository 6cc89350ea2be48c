use Rattle.std.proofs.Common.{◌≡◌, ◌++◌, take}
use Rattle.std.specs.List.{flat_map}
use Rattle.flame_graph.specs.Boxes.{box_view}
use Rattle.flame_graph.specs.Frames.{scale_view}
use Rattle.flame_graph.specs.Pictures.{box_text}
use Rattle.flame_graph.proofs.picture.push_boxes.Given as goal

abbrev pub invariant-loop-flame : goal.invariant-loop-flame
invariant-loop-flame l = l.text.items ≡ l.fn.text.items ++ flat_map (λ flame. box_text (scale_view l.scale) (box_view flame)) (take l.flame-index l.boxes)
