-- Each row is the first of those that were left.
use Rattle.std.proofs.Common.{◌<◌, arith, sym}
use Rattle.std.proofs.lemmas.Result.{IfOk-weaker}
use Rattle.dwarf_frame_instructions.specs.Execution.{row_in}
use Rattle.dwarf_frame_instructions.specs.ProgramRows.{rows_left}
use Rattle.framehop_tables.specs.Covered.{row_rules}
use Rattle.framehop_tables.proofs.RowLaws.{none-given, reached-begun, reached-last, reached-more, row-given}
use Rattle.framehop_tables.proofs.rows.add_rows.Goals as goal

pub rows-init : goal.rows-init
rows-init g c =
    let limits = g.S.UnwindContextStorage.limits in
    let rules = row_rules g.A.DwarfUnwinding.rows g.A.RowRules.rule_of in
    let all = rows_left g.R.Reader.stretch g.R.Offset.ReaderOffset.limit g.R.Offset.ReaderOffset.value g.S-Stack-ArrayLike.items limits c.args.rows.now in
    record {
      sound = c.requires.sound;
      reached = λ old begins. reached-begun rules c.args.span old all c.args.ranges.now begins;
    }

pub returns-in_default : goal.returns-in_default
returns-in_default g c =
    let limits = g.S.UnwindContextStorage.limits in
    let rules = row_rules g.A.DwarfUnwinding.rows g.A.RowRules.rule_of in
    let all = rows_left g.R.Reader.stretch g.R.Offset.ReaderOffset.limit g.R.Offset.ReaderOffset.value g.S-Stack-ArrayLike.items limits c.args.rows.now in
    let left = rows_left g.R.Reader.stretch g.R.Offset.ReaderOffset.limit g.R.Offset.ReaderOffset.value g.S-Stack-ArrayLike.items limits c.rows.rows in
    let none = none-given g.R.Reader.stretch g.R.Offset.ReaderOffset.limit g.R.Offset.ReaderOffset.value g.S-Stack-ArrayLike.items limits g.S.UnwindContextStorage.never_allocates c.requires.fixed
    c.rows.rows c.advance-advanced.new.self c.advance-advanced.result c.advance-advanced.ensures.row (sym (rw c.in_default.is at c.current_row.ensures)) in
    IfOk-weaker c.extend.result _ _
    (λ _ extends old begins. reached-last rules c.args.span old all c.rows.ranges c.extend.new.ranges left.rows left.refusal none extends (c.rows.invariant.reached old begins))
    (rw c.rule_if_uncovered_by_fde.ensures.rule at c.extend.ensures)

pub rows-preserved : goal.rows-preserved
rows-preserved g c =
    let limits = g.S.UnwindContextStorage.limits in
    let rules = row_rules g.A.DwarfUnwinding.rows g.A.RowRules.rule_of in
    let all = rows_left g.R.Reader.stretch g.R.Offset.ReaderOffset.limit g.R.Offset.ReaderOffset.value g.S-Stack-ArrayLike.items limits c.args.rows.now in
    let left = rows_left g.R.Reader.stretch g.R.Offset.ReaderOffset.limit g.R.Offset.ReaderOffset.value g.S-Stack-ArrayLike.items limits c.rows.rows in
    let rest = rows_left g.R.Reader.stretch g.R.Offset.ReaderOffset.limit g.R.Offset.ReaderOffset.value g.S-Stack-ArrayLike.items limits c.advance-advanced.new.self in
    let row = row_in g.R.Offset.ReaderOffset.value c.in-Some.row.now in
    let given = row-given g.R.Reader.stretch g.R.Offset.ReaderOffset.limit g.R.Offset.ReaderOffset.value g.S-Stack-ArrayLike.items limits g.S.UnwindContextStorage.never_allocates c.requires.fixed
    c.rows.rows c.advance-advanced.new.self c.advance-advanced.result row c.advance-advanced.ensures.row (sym (rw c.in-Some.is at c.current_row.ensures)) in
    let more : c.rows.ranges.done < c.args.span.limit = omega (arith, c.if-span-done.false, c.done.ensures) in
    record {
      sound = c.in_ok-add_row.ensures.extends.sound;
      reached = λ old begins. reached-more rules c.args.span old all c.rows.ranges c.add_row.new.ranges left.rows left.refusal row rest more given.0 given.1 c.in_ok-add_row.ensures (c.rows.invariant.reached old begins);
    }
