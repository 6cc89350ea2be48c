use Rattle.std.proofs.Common.{◌≡◌, ◌+◌, [], ◌∷◌, ◌++◌, drop, map, reverse, take, ap, ◌∙◌, arith}
use Rattle.dwarf_frame_rows.specs.Contexts.{known_rules, state_of}
use Rattle.dwarf_frame_rows.specs.Row.{row_of, rules_of_first}
use Rattle.dwarf_frame_rows.proofs.SavedRows.{reversed-with-more, same-first}
use Rattle.dwarf_frame_rows.proofs.StateParts.{pushed-by-parts}
use Rattle.dwarf_frame_rows.proofs.context.UnwindContext.push_row.Goals as goal

pub returns-clause-ok : goal.returns-clause-ok
returns-clause-ok g c =
    let items = g.S-Stack-ArrayLike.items in
    let before = c.args.self.now in
    let row = row_of before.row in
    let first_made = items c.make_room.new.saved in
    let place_made = items c.make_room-2.new.saved in
    let new = items c.save.new.saved in
    let rows = c.remembered_rows-rows.result in
    let with_more : map row_of (take (rows + 1 + 1) new) ≡ map row_of (take (rows + 1) first_made) ++ row ∷ [] =
    c.in_ok-save.ensures.there ∙ ap (λ l. map row_of l ++ row ∷ []) c.make_room-2.ensures.others.before in
    let one_more = reversed-with-more row_of first_made new rows row c.in_ok-make_room.ensures.there with_more in
    let others = ap (take rows) c.make_room.ensures.others.behind ∙ c.remembered_rows-rows.ensures.all in
    let first = same-first place_made new (rows + 1) (omega arith) c.save.ensures.others.before ∙ c.make_room-2.ensures.first ∙ c.make_room.ensures.first in
    pushed-by-parts (state_of items before) (reverse (map row_of (take (rows + 1) (drop 1 new)))) (known_rules before.initial_rules (rules_of_first new))
    (one_more ∙ ap (λ l. row ∷ reverse (map row_of l)) others)
    (ap (known_rules before.initial_rules) first)
