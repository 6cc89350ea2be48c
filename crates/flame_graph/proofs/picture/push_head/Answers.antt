use Rattle.std.proofs.Common.{◌++◌}
use Rattle.std.specs.Prelude.{codes}
use Rattle.flame_graph.specs.declared.page.TheConstants.{SCRIPT}
use Rattle.flame_graph.specs.Escapes.{escaped}
use Rattle.flame_graph.specs.Frames.{scale_view}
use Rattle.flame_graph.specs.Pictures.{head_text, note_text}
use Rattle.flame_graph.proofs.Pushing.{behind, last_behind}
use Rattle.flame_graph.proofs.picture.push_head.Goals as goal

pub returns : goal.returns
unfolding head_text
returns c =
    let old = c.args.text.now.items in
    let head = codes "</svg>\n<g id='head'><rect class='page' width='100%' height='114'/><text class='title' x='1%' y='30'>" in
    let title = escaped c.args.title.now in
    let middle = codes "</text><text class='note' x='1%' y='50'>" in
    let note = note_text (scale_view c.args.scale.now) in
    last_behind c.push_bytes-3.result old (head ++ title ++ middle ++ note) SCRIPT.now c.push_note.new.text.items c.push_bytes-3.new.text.items
    (behind old (head ++ title ++ middle) note c.push_bytes-2.new.text.items c.push_note.new.text.items
    (behind old (head ++ title) middle c.push_escaped.new.text.items c.push_bytes-2.new.text.items
    (behind old head title c.push_bytes.new.text.items c.push_escaped.new.text.items
    (c.in_ok-push_bytes.ensures {u = tt}) (c.in_ok-push_escaped.ensures {u = tt}))
    (c.in_ok-push_bytes-2.ensures {u = tt}))
    (c.in_ok-push_note.ensures {u = tt}))
    c.push_bytes-3.ensures
