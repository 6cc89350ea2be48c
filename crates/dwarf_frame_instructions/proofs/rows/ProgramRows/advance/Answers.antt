use Rattle.std.proofs.Common.{ap, refl, ◌∙◌}
use Rattle.dwarf_frame_instructions.specs.Execution.{state_in}
use Rattle.dwarf_frame_instructions.specs.InstructionViews.{conventions_by}
use Rattle.dwarf_frame_instructions.specs.Instructions.{instructions_of}
use Rattle.dwarf_frame_instructions.specs.ProgramRows.{instructions_left}
use Rattle.dwarf_frame_instructions.proofs.Execution.{end_in, ended_in, ended_last, factors_in, given_in, moved_on, next_in, refused_here}
use Rattle.dwarf_frame_instructions.proofs.rows.ProgramRows.advance.Goals as goal

pub returns-in-Ok-Some-clause-row : goal.returns-in-Ok-Some-clause-row
returns-in-Ok-Some-clause-row g c =
    let stretch = g.R.Reader.stretch in
    let limit = g.R.Offset.ReaderOffset.limit in
    let number = g.R.Offset.ReaderOffset.value in
    let items = g.S-Stack-ArrayLike.items in
    let ran = rw c.in-Ok-Some.field-0-is at c.in-Ok-Some.ensures.prefix in
    let kept = c.end_row.ensures.kept in
    moved_on stretch limit number items g.S.UnwindContextStorage.limits g.S.UnwindContextStorage.never_allocates c.args.self.now c.end_row.new.self c.if-self.false
    c.in-Ok-Some.location (state_in number items c.run.new.context) (instructions_of (conventions_by stretch limit c.args.self.now.coding) (stretch c.run.new.input)) ran c.end_row.ensures.row
    (ap factors_in kept) (ap end_in kept) (ap next_in kept) (ap (instructions_left stretch limit) kept) (ap ended_in kept ∙ c.if-self.false) (ap given_in kept)

pub returns-in-Ok-None-clause-row : goal.returns-in-Ok-None-clause-row
returns-in-Ok-None-clause-row g c =
    let stretch = g.R.Reader.stretch in
    let limit = g.R.Offset.ReaderOffset.limit in
    let number = g.R.Offset.ReaderOffset.value in
    let items = g.S-Stack-ArrayLike.items in
    let ran = rw c.in-Ok-None.field-0-is at c.in-Ok-None.ensures.prefix in
    let kept = c.end_row-in-Ok-None.ensures.kept in
    ended_last stretch limit number items g.S.UnwindContextStorage.limits g.S.UnwindContextStorage.never_allocates c.args.self.now c.end_row-in-Ok-None.new.self c.if-self.false
    (state_in number items c.run.new.context) (instructions_of (conventions_by stretch limit c.args.self.now.coding) (stretch c.run.new.input)) ran c.end_row-in-Ok-None.ensures.row
    (ap ended_in kept) (ap given_in kept)

pub returns-in-Err-clause-row : goal.returns-in-Err-clause-row
returns-in-Err-clause-row g c =
    let stretch = g.R.Reader.stretch in
    let limit = g.R.Offset.ReaderOffset.limit in
    let number = g.R.Offset.ReaderOffset.value in
    let items = g.S-Stack-ArrayLike.items in
    refused_here stretch limit number items g.S.UnwindContextStorage.limits g.S.UnwindContextStorage.never_allocates c.args.self.now _ c.if-self.false
    (state_in number items c.run.new.context) (instructions_of (conventions_by stretch limit c.args.self.now.coding) (stretch c.run.new.input)) c.in-Err.error c.in-Err.ensures.prefix refl refl
