use Rattle.std.proofs.Common.{length}
use Rattle.dwarf_frame_instructions.specs.Execution.{state_in}
use Rattle.dwarf_frame_instructions.specs.InstructionViews.{conventions_by}
use Rattle.dwarf_frame_instructions.specs.Instructions.{instructions_of}
use Rattle.dwarf_frame_instructions.proofs.Execution.{Started}
use Rattle.dwarf_frame_instructions.proofs.rows.start.Given as goal

abbrev pub invariant-loop-next : goal.invariant-loop-next
invariant-loop-next g l =
    let conventions = conventions_by g.R.Reader.stretch g.R.Offset.ReaderOffset.limit l.coding in
    Started g.S.UnwindContextStorage.limits l.factors l.location (state_in g.R.Offset.ReaderOffset.value g.S-Stack-ArrayLike.items l.context)
    (instructions_of conventions (g.R.Reader.stretch l.fn.input)) (instructions_of conventions (g.R.Reader.stretch l.rest))

abbrev pub decreases-loop-next : goal.decreases-loop-next
decreases-loop-next g l = length (instructions_of (conventions_by g.R.Reader.stretch g.R.Offset.ReaderOffset.limit l.coding) (g.R.Reader.stretch l.rest))
