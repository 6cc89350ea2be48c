use Rattle.std.proofs.Common.{◌≡◌, ap, sym, ◌∙◌}
use Rattle.dwarf_frame_instructions.specs.InstructionViews.{instruction_as, instructions_by}
use Rattle.dwarf_frame_parts.proofs.RowsLeft.{executes-next}
use Rattle.dwarf_frame_parts.proofs.execution.execute_next.Goals as goal

pub returns-in-Some : goal.returns-in-Some
returns-in-Some g c =
    let instructions = instructions_by g.R.Reader.stretch g.R.Offset.ReaderOffset.limit c.args.coding.now in
    executes-next c.args.columns c.args.factors.now c.args.location (instructions c.args.input.now) (instructions c.next_if_frequent.new.input) c.args.state.now c.execute_frequent.new.state c.execute_frequent.result
    (record { instruction = instruction_as g.R.Offset.ReaderOffset.value c.in-Some.instruction; first = c.in-Some.ensures.some; executes = c.execute_frequent.ensures })

pub returns : goal.returns
returns g c =
    let instructions = instructions_by g.R.Reader.stretch g.R.Offset.ReaderOffset.limit c.args.coding.now in
    let none : instructions c.next_if_frequent.new.input ≡ instructions c.args.input.now = ap instructions (c.next_if_frequent.ensures.none c.in_default.is) in
    executes-next c.args.columns c.args.factors.now c.args.location (instructions c.args.input.now) (instructions c.next_left.new.input) c.args.state.now c.execute_by_call-action.new.state c.execute_by_call-action.result
    (record { instruction = instruction_as g.R.Offset.ReaderOffset.value c.in_ok-instruction.instruction; first = sym none ∙ (rw c.in_ok-instruction.was at c.in-Ok.ensures); executes = c.execute_by_call-action.ensures })
