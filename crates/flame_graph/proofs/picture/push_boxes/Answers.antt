use Rattle.std.proofs.Common.{◌≤◌, ◌++◌, length, ap, ◌∙◌, sym, List, ℕ, arith}
use Rattle.std.specs.List.{flat_map}
use Rattle.std.proofs.lemmas.List.{take_all}
use Rattle.std.proofs.lemmas.List.Folds.{flat_map-map}
use Rattle.flame_graph.specs.Boxes.{box_view}
use Rattle.flame_graph.specs.Frames.{scale_view}
use Rattle.flame_graph.specs.Pictures.{box_text}
use Rattle.flame_graph.specs.declared.boxes.FlameBox.{FlameBox}
use Rattle.flame_graph.proofs.picture.push_boxes.Goals as goal

pub returns : goal.returns
returns c =
    let boxes = c.args.boxes.now in
    let scale = scale_view c.args.scale.now in
    let end : length boxes ≤ c.loop-flame.flame-index = omega (arith, c.loop-flame-test.false) in
    c.loop-flame.invariant
    ∙ ap (λ (xs : List FlameBox). c.args.text.now.items ++ flat_map (λ flame. box_text scale (box_view flame)) xs) (take_all c.loop-flame.flame-index boxes end)
    ∙ ap (λ (t : List ℕ). c.args.text.now.items ++ t) (sym (flat_map-map (box_text scale) box_view boxes))
