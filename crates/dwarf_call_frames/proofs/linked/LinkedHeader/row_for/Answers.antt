-- Each start that is read halves the rows that are left.
use Rattle.std.proofs.Common.{◌+◌, ◌/◌, Less, Equal, Greater, Ok, refl, sym, ap, arith}
use Rattle.std.specs.Cmp.{ranked}
use Rattle.dwarf_call_frames.specs.Linked.{linked_row, target_in}
use Rattle.dwarf_call_frames.proofs.RowsHalved.{ended-at-pivot, ended-one, left-above, left-below}
use Rattle.dwarf_call_frames.proofs.linked.LinkedHeader.row_for.Goals as goal

pub returns-in-Equal-clause-reached : goal.returns-in-Equal-clause-reached
returns-in-Equal-clause-reached c =
    let row = linked_row c.args.self.now c.args.table.now in
    let left = c.halves.invariant in
    sym (ended-at-pivot row c.args.address c.args.self.now.count c.halves.first c.halves.count 0 left.0 left.1 (left.0 + 1) refl c.halves-test.true c.pointer_in.result
    (ap Ok c.pointer_in.ensures) (Ok (target_in c.args.self.now c.args.table.now (c.halves.first + c.halves.count / 2))) (ranked _ _ Equal c.in-Equal.ensures) refl).row

pub halves-preserved-in-Less : goal.halves-preserved-in-Less
halves-preserved-in-Less c =
    let row = linked_row c.args.self.now c.args.table.now in
    let left = c.halves.invariant in (
      left.0 + 1,
      left-below row c.args.address c.args.self.now.count c.halves.first c.halves.count 0 left.0 left.1 (left.0 + 1) refl c.halves-test.true c.pointer_in.result
          (ap Ok c.pointer_in.ensures) (ranked _ _ Less c.in-Less.ensures),
    )

pub halves-preserved : goal.halves-preserved
halves-preserved c =
    let row = linked_row c.args.self.now c.args.table.now in
    let left = c.halves.invariant in (
      left.0 + 1,
      left-above row c.args.address c.args.self.now.count c.halves.first c.halves.count 0 left.0 left.1 (left.0 + 1) refl c.halves-test.true c.pointer_in.result
          (ap Ok c.pointer_in.ensures) (ranked _ _ Greater c.in-Greater.ensures),
    )

pub returns-clause-reached : goal.returns-clause-reached
returns-clause-reached c =
    let row = linked_row c.args.self.now c.args.table.now in
    let left = c.halves.invariant in
    sym (ended-one row c.args.address c.args.self.now.count c.halves.first c.halves.count 0 left.0 left.1 (omega (arith, c.halves-test.false))
    (Ok (target_in c.args.self.now c.args.table.now c.halves.first)) refl).row
