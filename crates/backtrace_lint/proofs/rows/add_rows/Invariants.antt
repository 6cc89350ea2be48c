use Rattle.dwarf_frame_instructions.specs.ProgramRows.{rows_left, steps_left}
use Rattle.backtrace_lint.proofs.RowSteps.{Reads}
use Rattle.backtrace_lint.proofs.rows.add_rows.Given as goal

abbrev pub invariant-rows : goal.invariant-rows
invariant-rows g l =
    let limits = g.S.UnwindContextStorage.limits in
    let all = rows_left g.R.Reader.stretch g.R.Offset.ReaderOffset.limit g.R.Offset.ReaderOffset.value g.S-Stack-ArrayLike.items limits l.fn.rows in
    let left = rows_left g.R.Reader.stretch g.R.Offset.ReaderOffset.limit g.R.Offset.ReaderOffset.value g.S-Stack-ArrayLike.items limits l.rows in
    Reads g.A.RowRules.rule_of l.fn.found.items all l.found.items left

abbrev pub decreases-rows : goal.decreases-rows
decreases-rows g l = steps_left g.R.Reader.stretch g.R.Offset.ReaderOffset.limit l.rows
