use Rattle.dwarf_frame_rows.specs.Row.{row_of}
use Rattle.dwarf_frame_rows.proofs.SavedRows.{map-copied, written-around}
use Rattle.dwarf_frame_rows.proofs.context.save.Goals as goal

pub returns-in-Some-clause-there : goal.returns-in-Some-clause-there
returns-in-Some-clause-there g c =
    let items = g.Stack.ArrayLike.items in
    let written = g.met.Stack.ArrayLike.items_with c.args.saved.now c.args.index c.copy_from.new.self in
    map-copied row_of (items c.args.saved.now) (items (g.Stack.ArrayLike.with_item c.args.saved.now c.args.index c.copy_from.new.self)) c.args.index c.copy_from.new.self (row_of c.args.row.now) c.copy_from.result written c.requires c.copy_from.ensures.ok

pub returns-in-Some-clause-others : goal.returns-in-Some-clause-others
returns-in-Some-clause-others g c =
    let items = g.Stack.ArrayLike.items in
    let written = g.met.Stack.ArrayLike.items_with c.args.saved.now c.args.index c.copy_from.new.self in
    written-around (items c.args.saved.now) (items (g.Stack.ArrayLike.with_item c.args.saved.now c.args.index c.copy_from.new.self)) c.args.index c.copy_from.new.self written
