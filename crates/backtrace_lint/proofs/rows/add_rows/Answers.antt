-- A row that no rule says is the first of those that were left.
use Rattle.std.proofs.Common.{◌≡◌, ℕ, Option, Some, None, Result, Ok, sym, ap, subst, ◌∙◌}
use Rattle.dwarf_constants.specs.declared.error.Error.{Error}
use Rattle.dwarf_frame_rows.specs.Row.{Row}
use Rattle.dwarf_frame_instructions.specs.Execution.{row_in}
use Rattle.dwarf_frame_instructions.specs.ProgramRows.{first_of, rows_left}
use Rattle.dwarf_frame_instructions.specs.Programs.{RowList}
use Rattle.backtrace_lint.proofs.RowSteps.{Reads, ends-none, goes-on}
use Rattle.backtrace_lint.proofs.rows.add_rows.Goals as goal

pub rows-preserved-in-Continue-1 : goal.rows-preserved-in-Continue-1
rows-preserved-in-Continue-1 g c =
    let limits = g.S.UnwindContextStorage.limits in
    let all = rows_left g.R.Reader.stretch g.R.Offset.ReaderOffset.limit g.R.Offset.ReaderOffset.value g.S-Stack-ArrayLike.items limits c.args.rows.now in
    let left = rows_left g.R.Reader.stretch g.R.Offset.ReaderOffset.limit g.R.Offset.ReaderOffset.value g.S-Stack-ArrayLike.items limits c.rows.rows in
    let row = row_in g.R.Offset.ReaderOffset.value c.in-Some.row.now in
    let went = c.in_default.ensures.row in
    let first : ◌≡◌ {A = Result (Option (Row ℕ)) Error} (first_of left) (Ok (Some row)) = went.first ∙ ap (λ (o : Option (Row ℕ)). Ok o) (sym c.in-Some.ensures) in
    let reads = goes-on g.A.RowRules.rule_of c.args.found.now.items all c.rows.found.items c.push.new.self.items left row (Some c.in-Some-unsaid_start.start) first
    (sym c.in-Some-unsaid_start.ensures) c.in_ok-push.ensures.items c.rows.invariant in
    subst (λ (l : RowList ℕ). Reads g.A.RowRules.rule_of c.args.found.now.items all c.push.new.self.items l) (sym went.left) reads

pub returns-in_default-current_row : goal.returns-in_default-current_row
returns-in_default-current_row g c =
    let limits = g.S.UnwindContextStorage.limits in
    let all = rows_left g.R.Reader.stretch g.R.Offset.ReaderOffset.limit g.R.Offset.ReaderOffset.value g.S-Stack-ArrayLike.items limits c.args.rows.now in
    let left = rows_left g.R.Reader.stretch g.R.Offset.ReaderOffset.limit g.R.Offset.ReaderOffset.value g.S-Stack-ArrayLike.items limits c.rows.rows in
    let none = rw c.in_default-current_row.is at c.current_row.ensures in
    let first : ◌≡◌ {A = Result (Option (Row ℕ)) Error} (first_of left) (Ok None) = c.in_default.ensures.row.first ∙ ap (λ (o : Option (Row ℕ)). Ok o) (sym none) in
    let (starts, ends) = ends-none g.A.RowRules.rule_of c.args.found.now.items all c.rows.found.items left first c.rows.invariant in
    record { starts = starts; ends = ends }
