-- The rows that a table has left after the borrow of the row that it gave ends.
use Rattle.std.specs.Prelude.{⊤, []}
use Rattle.std.specs.Borrow.{follows_so, MutBor, Fml, RattleType}
use mathlib.Core.Option.{none}
use mir.Syntax.{named}
use Rattle.dwarf_storage.specs.declared.array_like.ArrayLike.{Ghosts}
use Rattle.dwarf_frame_rows.specs.declared.rules.RegisterRule.{RegisterRule}
use Rattle.dwarf_frame_rows.specs.declared.rules.RuledRegister.{RuledRegister}
use Rattle.dwarf_frame_entries.specs.declared.table.UnwindTable.{UnwindTable}
use Rattle.dwarf_frame_entries.specs.contracts.table.UnwindTable.{the_row}

module _ (R S E O L K : RattleType) (rules : Ghosts L.Denot (RuledRegister (RegisterRule O.Denot))) where
  -- the table is left so once the row that was lent is given back
  abbrev pub LendsRow : MutBor (UnwindTable R.Denot S.Denot E.Denot O.Denot L.Denot K.Denot)
      → (UnwindTable R.Denot S.Denot E.Denot O.Denot L.Denot K.Denot → Type 0) → Fml
  LendsRow table leaves =
      let row = the_row (record { mir = named 0; lft = [] }) (record { mir = named 1; lft = [] }) R S E O L K rules in
      follows_so row row table.ghost_name none (λ _ _. ⊤) leaves
