use Rattle.std.proofs.Common.{◌+◌, ◌++◌, ◌∙◌, ap, ℕ, List, decimal}
use Rattle.std.specs.Prelude.{codes}
use Rattle.flame_graph.specs.Frames.{scale_view}
use Rattle.flame_graph.specs.Pictures.{class_of, height_of, root_text}
use Rattle.flame_graph.proofs.Pushing.{behind, last_behind}
use Rattle.flame_graph.proofs.picture.push_root.Goals as goal

pub returns : goal.returns
unfolding root_text
returns c =
    let old = c.args.text.now.items in
    let scale = scale_view c.args.scale.now in
    let root = codes "<svg xmlns='http://www.w3.org/2000/svg' class='" in
    let class = class_of scale.direction in
    let size = codes "' width='100%' height='" in
    let height = decimal (height_of scale.levels + 136) in
    let end = codes "'><title>" in
    let named = c.in_ok-push_bytes-2.ensures {u = tt} ∙ ap (λ (t : List ℕ). c.push_bytes.new.text.items ++ t) c.class.ensures in
    let high = c.in_ok-push_number.ensures {u = tt} ∙ ap (λ (n : ℕ). c.push_bytes-3.new.text.items ++ decimal (n + 136)) c.height.ensures in
    last_behind c.push_bytes-4.result old (root ++ class ++ size ++ height) end c.push_number.new.text.items c.push_bytes-4.new.text.items
    (behind old (root ++ class ++ size) height c.push_bytes-3.new.text.items c.push_number.new.text.items
    (behind old (root ++ class) size c.push_bytes-2.new.text.items c.push_bytes-3.new.text.items
    (behind old root class c.push_bytes.new.text.items c.push_bytes-2.new.text.items
    (c.in_ok-push_bytes.ensures {u = tt}) named)
    (c.in_ok-push_bytes-3.ensures {u = tt}))
    high)
    c.push_bytes-4.ensures
