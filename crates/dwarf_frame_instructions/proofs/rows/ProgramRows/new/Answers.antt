use Rattle.std.proofs.Common.{Ok, sym, ap, subst, ◌∙◌}
use Rattle.dwarf_frame_instructions.specs.Execution.{Starts, state_in}
use Rattle.dwarf_frame_instructions.specs.ProgramRows.{program_of, rows_of_state}
use Rattle.dwarf_frame_instructions.specs.Programs.{Instructions, executed_by_cie}
use Rattle.std.proofs.Common.{ℕ}
use Rattle.dwarf_frame_instructions.proofs.Execution.{rows_begun}
use Rattle.dwarf_frame_instructions.proofs.rows.ProgramRows.new.Goals as goal

pub returns-clause-rows : goal.returns-clause-rows
returns-clause-rows g c =
    let limits = g.S.UnwindContextStorage.limits in
    let fixed = g.S.UnwindContextStorage.never_allocates in
    let program = c.args.program in
    let state = state_in g.R.Offset.ReaderOffset.value g.S-Stack-ArrayLike.items c.start.new.context in
    let P : Instructions ℕ → Type 0 = λ list. Starts fixed state (executed_by_cie limits program.factors list) (Ok tt) in
    ap (rows_of_state limits program.factors program.end_address program.initial_address state) (sym c.into_parts-coding-2.ensures)
    ∙ rows_begun fixed limits (program_of program) state (subst P (sym c.into_parts-coding.ensures) c.in_ok-start.ensures.started)
