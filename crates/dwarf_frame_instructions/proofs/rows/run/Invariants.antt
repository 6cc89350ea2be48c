use Rattle.std.proofs.Common.{◌≡◌, ◌≤◌, length}
use Rattle.dwarf_frame_instructions.specs.Execution.{prefix_from, state_in}
use Rattle.dwarf_frame_instructions.specs.InstructionViews.{conventions_by}
use Rattle.dwarf_frame_instructions.specs.Instructions.{instructions_of}
use Rattle.dwarf_frame_instructions.proofs.rows.run.Given as goal

-- the prefix of the whole is that of what is left
abbrev pub invariant-instructions : goal.invariant-instructions
invariant-instructions g l =
    let number = g.R.Offset.ReaderOffset.value in
    let items = g.S-Stack-ArrayLike.items in
    let limits = g.S.UnwindContextStorage.limits in
    let conventions = conventions_by g.R.Reader.stretch g.R.Offset.ReaderOffset.limit l.coding in
    let first = instructions_of conventions (g.R.Reader.stretch l.fn.input) in
    let left = instructions_of conventions (g.R.Reader.stretch l.rest) in
    record {
      reached : prefix_from limits l.factors l.location (state_in number items l.fn.context) first ≡ prefix_from limits l.factors l.location (state_in number items l.context) left;
      falls : length left ≤ length first;
    }

abbrev pub decreases-instructions : goal.decreases-instructions
decreases-instructions g l = length (instructions_of (conventions_by g.R.Reader.stretch g.R.Offset.ReaderOffset.limit l.coding) (g.R.Reader.stretch l.rest))
