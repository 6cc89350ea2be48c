use Rattle.std.proofs.Common.{◌≡◌, ℕ}
use Rattle.dwarf_frame_rows.specs.Effects.{Limits}
use Rattle.dwarf_frame_instructions.specs.Programs.{RowList}
use Rattle.dwarf_frame_parts.specs.PartsRows.{HasRows, instructions_left}
use Rattle.dwarf_frame_parts.specs.PartsStates.{HasRoomForParts}
use Rattle.dwarf_frame_parts.proofs.RowsLeft.{Passed}
use Rattle.dwarf_frame_parts.proofs.parts_rows.PartsRows.find.Given as goal

abbrev pub invariant-rows : goal.invariant-rows
invariant-rows g l =
    let stretch = g.R.Reader.stretch in
    let limit = g.R.Offset.ReaderOffset.limit in
    record {
      passed : (limits : Limits) (left : RowList ℕ) → HasRoomForParts limits → HasRows stretch limit limits l.fn.self left
          → Passed stretch limit limits l.address left l.rows;
      columns : l.rows.columns ≡ l.fn.self.columns;
    }

abbrev pub decreases-rows : goal.decreases-rows
decreases-rows g l = instructions_left g.R.Reader.stretch g.R.Offset.ReaderOffset.limit l.rows
