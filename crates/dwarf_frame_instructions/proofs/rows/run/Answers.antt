use Rattle.std.proofs.Common.{Ok, None, sym, ◌∙◌}
use Rattle.dwarf_frame_instructions.specs.Execution.{prefix_from, state_in}
use Rattle.dwarf_frame_instructions.specs.InstructionViews.{conventions_by, instruction_as}
use Rattle.dwarf_frame_instructions.specs.Instructions.{instructions_of}
use Rattle.dwarf_frame_instructions.proofs.Execution.{runs_ended}
use Rattle.dwarf_frame_instructions.proofs.InstructionLists.{item_none, next_taken}
use Rattle.dwarf_frame_instructions.proofs.rows.run.Goals as goal

pub returns-then-is_empty-clause-prefix : goal.returns-then-is_empty-clause-prefix
returns-then-is_empty-clause-prefix g c =
    let number = g.R.Offset.ReaderOffset.value in
    let items = g.S-Stack-ArrayLike.items in
    let limits = g.S.UnwindContextStorage.limits in
    let fixed = g.S.UnwindContextStorage.never_allocates in
    let conventions = conventions_by g.R.Reader.stretch g.R.Offset.ReaderOffset.limit c.args.coding.now in
    let listed = λ (r : _). instructions_of conventions (g.R.Reader.stretch r) in
    let now = state_in number items c.instructions.context in
    let whole = prefix_from limits c.args.factors.now c.args.location (state_in number items c.args.context.now) (listed c.args.input.now) in
    let s = g.R.Reader.stretch c.instructions.rest in
    let none = item_none conventions s (sym c.is_empty.ensures ∙ c.if-is_empty.true) in
    let list = next_taken conventions (instruction_as number) (Ok None) s s none none in
    runs_ended fixed limits c.args.factors.now c.args.location now whole (listed c.instructions.rest) c.instructions.invariant.reached (listed c.instructions.rest) list.0
