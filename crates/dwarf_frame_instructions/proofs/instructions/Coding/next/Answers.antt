use Rattle.std.proofs.Common.{Some, None, Ok, Err, sym, ap, ◌∙◌}
use Rattle.dwarf_constants.specs.declared.error.Error.{Error}
use Rattle.dwarf_readers.specs.Remainder.{item_at}
use Rattle.dwarf_frame_instructions.specs.InstructionViews.{conventions_by, instruction_as}
use Rattle.dwarf_frame_instructions.specs.Instructions.{instruction_at}
use Rattle.dwarf_frame_instructions.proofs.InstructionLists.{item_none, item_there, next_taken}
use Rattle.dwarf_frame_instructions.proofs.Memory.{instruction_read}
use Rattle.dwarf_frame_instructions.proofs.instructions.Coding.next.Goals as goal

pub returns-then-is_empty-clause-given : goal.returns-then-is_empty-clause-given
returns-then-is_empty-clause-given g c =
    let conventions = conventions_by g.R.Reader.stretch g.R.Offset.ReaderOffset.limit c.args.self.now in
    let s = g.R.Reader.stretch c.args.input.now in
    let none = item_none conventions s (sym c.is_empty.ensures ∙ c.if-is_empty.true) in
    next_taken conventions (instruction_as g.R.Offset.ReaderOffset.value) (Ok None) s s none none

pub returns-in-Ok-clause-given : goal.returns-in-Ok-clause-given
returns-in-Ok-clause-given g c =
    let conventions = conventions_by g.R.Reader.stretch g.R.Offset.ReaderOffset.limit c.args.self.now in
    let view = instruction_as g.R.Offset.ReaderOffset.value in
    let s = g.R.Reader.stretch c.args.input.now in
    let rest = g.R.Reader.stretch c.parse.new.input in
    next_taken conventions view (Ok (Some c.in-Ok.instruction)) s rest
    (item_there conventions s (Ok (view c.in-Ok.instruction, rest)) (sym c.is_empty.ensures ∙ c.if-is_empty.false) c.in-Ok.ensures) tt

pub returns-in-Err-clause-given : goal.returns-in-Err-clause-given
returns-in-Err-clause-given g c =
    let conventions = conventions_by g.R.Reader.stretch g.R.Offset.ReaderOffset.limit c.args.self.now in
    let view = instruction_as g.R.Offset.ReaderOffset.value in
    let s = g.R.Reader.stretch c.args.input.now in
    let rest = g.R.Reader.stretch c.empty.new.self in
    next_taken conventions view (Err c.in-Err.error) s rest
    (item_there conventions s (Err c.in-Err.error) (sym c.is_empty.ensures ∙ c.if-is_empty.false) c.in-Err.ensures)
    (ap (item_at (instruction_at conventions)) c.empty.ensures)

pub returns-in-Err-clause-memory : goal.returns-in-Err-clause-memory
returns-in-Err-clause-memory g c =
    let conventions = conventions_by g.R.Reader.stretch g.R.Offset.ReaderOffset.limit c.args.self.now in
    λ is. (instruction_read conventions (g.R.Reader.stretch c.args.input.now)).never (c.in-Err.ensures ∙ ap (λ (e : Error). Err e) is)
