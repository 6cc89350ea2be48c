use Rattle.std.proofs.Common.{◌≡◌, ℕ, ◌≤◌}
use Rattle.dwarf_frame_rows.specs.Effects.{Limits}
use Rattle.dwarf_frame_instructions.specs.Programs.{RowList}
use Rattle.dwarf_frame_parts.specs.PartsRows.{HasRows, instructions_left, rest_of}
use Rattle.dwarf_frame_parts.specs.PartsStates.{HasRoomForParts}
use Rattle.dwarf_frame_parts.proofs.RowsLeft.{Reached}
use Rattle.dwarf_frame_parts.proofs.parts_rows.PartsRows.advance.Given as goal

abbrev pub invariant-instructions : goal.invariant-instructions
invariant-instructions g l =
    let stretch = g.R.Reader.stretch in
    let limit = g.R.Offset.ReaderOffset.limit in
    record {
      rows : (limits : Limits) (left : RowList ℕ) → HasRoomForParts limits → HasRows stretch limit limits l.fn.self left
          → Reached limits l.self.columns l.self.factors l.self.last_address l.self.start_address left l.self.state (rest_of stretch limit l.self);
      columns : l.self.columns ≡ l.fn.self.columns;
      fewer : instructions_left stretch limit l.self ≤ instructions_left stretch limit l.fn.self;
    }

abbrev pub decreases-instructions : goal.decreases-instructions
decreases-instructions g l = instructions_left g.R.Reader.stretch g.R.Offset.ReaderOffset.limit l.self
