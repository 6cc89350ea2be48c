-- Each start that is read halves the rows that are left.
use Rattle.std.proofs.Common.{ap, ◌∙◌, arith, Err, Less, Equal, Greater}
use Rattle.std.specs.Cmp.{ranked}
use Rattle.std.proofs.lemmas.Result.{err_from_is_err_and}
use Rattle.dwarf_call_frames.specs.HeaderTable.{row_at_index, header_table}
use Rattle.dwarf_call_frames.proofs.RowsHalved.{ended-at-pivot, ended-one, ended-refused, left-above, left-below}
use Rattle.dwarf_call_frames.proofs.table.EhHdrTable.halve.Goals as goal

pub returns-in_err-start_at : goal.returns-in_err-start_at
returns-in_err-start_at g c =
    let row = row_at_index g.R.Offset.ReaderOffset.limit c.args.size (header_table c.args.bases.now.eh_frame_hdr c.args.self.now) in
    let from = err_from_is_err_and c.from_residual.result c.from_residual.ensures.1 in
    let start = rw c.self.view_is at c.in_err-start_at.ensures in
    ended-refused row c.args.address c.args.self.now.count c.halves.first c.halves.count c.args.steps.now c.halves.steps c.halves.invariant c.tick.new.self c.tick.ensures c.halves-test.true c.in_err-start_at.field-0.0 c.from_residual.result start (from.1 ∙ ap Err from.2)

pub returns-in-Equal : goal.returns-in-Equal
returns-in-Equal g c =
    let row = row_at_index g.R.Offset.ReaderOffset.limit c.args.size (header_table c.args.bases.now.eh_frame_hdr c.args.self.now) in
    let start = rw c.self.view_is at c.in_ok-start_at.ensures in
    let target = rw c.self.view_is at c.target_at.ensures in
    ended-at-pivot row c.args.address c.args.self.now.count c.halves.first c.halves.count c.args.steps.now c.halves.steps c.halves.invariant c.tick.new.self c.tick.ensures c.halves-test.true c.in_ok-start_at.field-0 start c.target_at.result (ranked _ _ Equal c.in-Equal.ensures) target

pub halves-preserved-in-Less : goal.halves-preserved-in-Less
halves-preserved-in-Less g c =
    let row = row_at_index g.R.Offset.ReaderOffset.limit c.args.size (header_table c.args.bases.now.eh_frame_hdr c.args.self.now) in
    let start = rw c.self.view_is at c.in_ok-start_at.ensures in
    left-below row c.args.address c.args.self.now.count c.halves.first c.halves.count c.args.steps.now c.halves.steps c.halves.invariant c.tick.new.self c.tick.ensures c.halves-test.true c.in_ok-start_at.field-0 start (ranked _ _ Less c.in-Less.ensures)

pub halves-preserved : goal.halves-preserved
halves-preserved g c =
    let row = row_at_index g.R.Offset.ReaderOffset.limit c.args.size (header_table c.args.bases.now.eh_frame_hdr c.args.self.now) in
    let start = rw c.self.view_is at c.in_ok-start_at.ensures in
    left-above row c.args.address c.args.self.now.count c.halves.first c.halves.count c.args.steps.now c.halves.steps c.halves.invariant c.tick.new.self c.tick.ensures c.halves-test.true c.in_ok-start_at.field-0 start (ranked _ _ Greater c.in-Greater.ensures)

pub returns : goal.returns
returns g c =
    let row = row_at_index g.R.Offset.ReaderOffset.limit c.args.size (header_table c.args.bases.now.eh_frame_hdr c.args.self.now) in
    let target = rw c.self.view_is at c.target_at-2.ensures in
    ended-one row c.args.address c.args.self.now.count c.halves.first c.halves.count c.args.steps.now c.halves.steps c.halves.invariant (omega (arith, c.halves-test.false)) c.target_at-2.result target
