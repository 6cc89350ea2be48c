use Rattle.std.proofs.Common.{◌++◌, decimal}
use Rattle.std.specs.Prelude.{codes}
use Rattle.flame_graph.specs.Escapes.{escaped}
use Rattle.flame_graph.specs.Frames.{fill_text}
use Rattle.flame_graph.proofs.Pushing.{behind, last_behind}
use Rattle.flame_graph.proofs.frames.push_fill.Goals as goal

pub returns : goal.returns
unfolding fill_text
returns c =
    let old = c.args.text.now.items in
    let area = codes "<rect class='c" in
    let color = decimal c.args.color in
    let middle = codes "' width='100%' height='17' rx='2'/><text x='4' y='13'>" in
    let name = escaped c.args.name.now in
    let end = codes "</text></svg>\n" in
    last_behind c.push_bytes-3.result old (area ++ color ++ middle ++ name) end c.push_escaped.new.text.items c.push_bytes-3.new.text.items
    (behind old (area ++ color ++ middle) name c.push_bytes-2.new.text.items c.push_escaped.new.text.items
    (behind old (area ++ color) middle c.push_decimal.new.text.items c.push_bytes-2.new.text.items
    (behind old area color c.push_bytes.new.text.items c.push_decimal.new.text.items
    (c.in_ok-push_bytes.ensures {u = tt}) (c.in_ok-push_decimal.ensures {u = tt}))
    (c.in_ok-push_bytes-2.ensures {u = tt}))
    (c.in_ok-push_escaped.ensures {u = tt}))
    c.push_bytes-3.ensures
