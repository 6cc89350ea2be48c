use Rattle.std.proofs.Common.{length}
use Rattle.dwarf_frame_rows.specs.Effects.{Limits}
use Rattle.dwarf_frame_instructions.specs.InstructionViews.{instructions_by}
use Rattle.dwarf_frame_parts.specs.PartsStates.{HasRoomForParts}
use Rattle.dwarf_frame_parts.proofs.PartsSteps.{Reached}
use Rattle.dwarf_frame_parts.proofs.left.left_by_cie.Given as goal

abbrev pub invariant-instructions : goal.invariant-instructions
invariant-instructions g l =
    let rest = instructions_by g.R.Reader.stretch g.R.Offset.ReaderOffset.limit in
    (limits : Limits) → HasRoomForParts limits → Reached l.columns limits l.factors l.fn.instructions (rest l.coding l.input) l.row

abbrev pub decreases-instructions : goal.decreases-instructions
decreases-instructions g l = length (instructions_by g.R.Reader.stretch g.R.Offset.ReaderOffset.limit l.coding l.input)
