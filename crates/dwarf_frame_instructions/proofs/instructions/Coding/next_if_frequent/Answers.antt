use Rattle.std.proofs.Common.{◌≡◌, ◌∷◌, Some, Ok, sym, ◌∙◌}
use Rattle.dwarf_frame_instructions.specs.Instructions.{instructions_of}
use Rattle.dwarf_frame_instructions.specs.InstructionViews.{conventions_by, instruction_as}
use Rattle.dwarf_frame_instructions.proofs.InstructionLists.{item_there, next_taken}
use Rattle.dwarf_frame_instructions.proofs.instructions.Coding.next_if_frequent.Goals as goal

pub returns-clause-some : goal.returns-clause-some
returns-clause-some g c =
    let conventions = conventions_by g.R.Reader.stretch g.R.Offset.ReaderOffset.limit c.args.self.now in
    let view = instruction_as g.R.Offset.ReaderOffset.value in
    let s = g.R.Reader.stretch c.args.input.now in
    let rest = g.R.Reader.stretch c.parse_frequent.new.input in
    let there = item_there conventions s (Ok (view c.in_ok-instruction.instruction, rest)) (sym c.is_empty.ensures ∙ c.if-is_empty.false) c.in_ok-instruction.ensures.read in
    let first : instructions_of conventions s ≡ Ok (view c.in_ok-instruction.instruction) ∷ instructions_of conventions rest =
    next_taken conventions view (Ok (Some c.in_ok-instruction.instruction)) s rest there tt in
    first
