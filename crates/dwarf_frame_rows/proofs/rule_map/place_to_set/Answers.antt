use Rattle.std.proofs.Common.{◌-◌, length, sym, ◌∙◌, arith}
use Rattle.dwarf_frame_rows.proofs.Places.{behind-last}
use Rattle.dwarf_frame_rows.proofs.rule_map.place_to_set.Goals as goal

pub returns-in-Less : goal.returns-in-Less
returns-in-Less g c = λ up.
    behind-last c.args.register.0 (length c.args.pairs.now - 1) c.args.pairs.now _ (omega (arith, c.if-count-le-FEW_RULES.false)) (sym c.cmp.ensures ∙ c.in-Less.is) up
