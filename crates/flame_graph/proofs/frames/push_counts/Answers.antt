use Rattle.std.proofs.Common.{◌++◌, decimal}
use Rattle.std.specs.Prelude.{codes}
use Rattle.flame_graph.specs.Boxes.{box_view}
use Rattle.flame_graph.specs.Frames.{counts_text}
use Rattle.flame_graph.proofs.Pushing.{behind, last_behind}
use Rattle.flame_graph.proofs.frames.push_counts.Goals as goal

pub returns : goal.returns
unfolding counts_text
returns c =
    let old = c.args.text.now.items in
    let shown = box_view c.args.flame.now in
    let box = codes "<svg class='box' data-start='" in
    let start = decimal shown.start in
    let middle = codes "' data-width='" in
    let width = decimal shown.width in
    last_behind c.push_decimal-2.result old (box ++ start ++ middle) width c.push_bytes-2.new.text.items c.push_decimal-2.new.text.items
    (behind old (box ++ start) middle c.push_decimal.new.text.items c.push_bytes-2.new.text.items
    (behind old box start c.push_bytes.new.text.items c.push_decimal.new.text.items
    (c.in_ok-push_bytes.ensures {u = tt}) (c.in_ok-push_decimal.ensures {u = tt}))
    (c.in_ok-push_bytes-2.ensures {u = tt}))
    c.push_decimal-2.ensures
