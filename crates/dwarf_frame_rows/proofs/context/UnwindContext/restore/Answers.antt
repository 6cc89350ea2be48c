use Rattle.std.proofs.Common.{◌<◌, ◌-◌, drop, get_or, map, reverse, take, sym, ap, ◌∙◌, arith}
use Rattle.dwarf_frame_rows.specs.Contexts.{known_rules, state_of}
use Rattle.dwarf_frame_rows.specs.Row.{row_of, rules_of_first}
use Rattle.dwarf_frame_rows.proofs.SavedRows.{reversed-behind-first, same-first}
use Rattle.dwarf_frame_rows.proofs.StateParts.{popped-by-parts}
use Rattle.dwarf_frame_rows.proofs.context.UnwindContext.restore.Goals as goal

pub returns-clause-acts : goal.returns-clause-acts
returns-clause-acts g c =
    let items = g.S-Stack-ArrayLike.items in
    let before = c.args.self.now in
    let old = items before.saved in
    let new = items c.take_back.new.saved in
    let rows = c.remembered_rows-rows.result in
    let some : 0 < rows = omega (arith, c.if-rows-eq0.false) in
    let latest = reversed-behind-first row_of old new rows before.row some c.remembered_rows-rows.ensures.within c.take_back.ensures.before in
    record {
      done = popped-by-parts (state_of items before) (row_of (get_or old rows before.row)) (row_of c.take_back.new.row)
          (reverse (map row_of (take (rows - 1) (drop 1 new)))) (known_rules before.initial_rules (rules_of_first new))
          (ap (λ l. reverse (map row_of l)) (sym c.remembered_rows-rows.ensures.all) ∙ latest)
          c.take_back.ensures.parts
          (ap (known_rules before.initial_rules) (same-first old new rows some c.take_back.ensures.before));
      refused = tt;
      unchanged = tt;
    }
