use Rattle.std.proofs.Common.{sym, ◌∙◌}
use Rattle.dwarf_frame_instructions.specs.InstructionViews.{conventions_by}
use Rattle.dwarf_frame_parts.proofs.NoneLeft.{none-left}
use Rattle.dwarf_frame_parts.proofs.execution.next_left.Goals as goal

pub returns-then-is_empty : goal.returns-then-is_empty
returns-then-is_empty g c =
    let conventions = conventions_by g.R.Reader.stretch g.R.Offset.ReaderOffset.limit c.args.coding.now in
    let none = none-left conventions (g.R.Reader.stretch c.args.input.now) (sym c.is_empty.ensures ∙ c.if-is_empty.true) in
    (none, none)
