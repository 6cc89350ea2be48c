use Rattle.std.proofs.Common.{Ok, sym, ap, refl, ◌∙◌}
use Rattle.dwarf_frame_entries.proofs.UnwindTables.{gave_one}
use Rattle.dwarf_frame_entries.proofs.table.UnwindTable.next_row.Goals as goal

pub returns : goal.returns
returns g c =
    let number = g.R.Offset.ReaderOffset.value in
    let items = g.S-Stack-ArrayLike.items in
    let went = c.in_ok-advance.ensures.row in
    let shown = c.current_row.ensures in (
      (
        refl,
        λ _. tt,
        record {
          left = went.left;
          current = sym shown;
          falls = gave_one number c.current_row.result c.in_ok-advance.field-0 c.advance.new.self.has_row _ _ went.given shown c.in_ok-advance.ensures.falls;
        },
      ),
      record { leaves = tt; row = went.first ∙ ap (λ o. Ok o) (sym shown); memory = λ _. tt },
    )
