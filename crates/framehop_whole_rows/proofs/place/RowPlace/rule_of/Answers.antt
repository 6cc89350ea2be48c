use Rattle.std.proofs.Common.{ap, sym, ◌∙◌, option_map}
use Rattle.std.specs.FinMap.{get}
use Rattle.dwarf_frame_instructions.proofs.Laws.{rule_seen}
use Rattle.dwarf_frame_instructions.specs.StateViews.{rule_as}
use Rattle.framehop_whole_rows.specs.Callers.{RowPlace}
use Rattle.framehop_whole_rows.proofs.place.RowPlace.rule_of.Goals as goal

pub returns : goal.returns
returns g c =
    let number = g.R.Offset.ReaderOffset.value in
    ap (λ (v : RowPlace). get v.row.rules c.args.register.0) (sym c.self.view_is)
    ∙ rule_seen (rule_as number) c.self.inside.row.now.registers c.args.register.0
    ∙ ap (option_map (rule_as number)) (sym c.register.ensures)
