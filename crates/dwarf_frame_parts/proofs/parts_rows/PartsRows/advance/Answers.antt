use Rattle.std.proofs.Common.{refl, ap, length, arith}
use Rattle.dwarf_frame_parts.specs.PartsRows.{rest_of}
use Rattle.dwarf_frame_parts.proofs.RowsLeft.{ended, moved, wrote}
use Rattle.dwarf_frame_parts.proofs.parts_rows.PartsRows.advance.Goals as goal

pub instructions-init : goal.instructions-init
instructions-init g c = record {
  rows = λ limits left room has. record { apart = has.apart; initial = has.initial; executed = has.executed; follows = has.follows; are = has.are };
  columns = refl;
  fewer = omega arith;
}

pub returns-in_default-clause-rows : goal.returns-in_default-clause-rows
returns-in_default-clause-rows g c = λ limits left room has.
    let rows = c.instructions.self in
    let none = rw c.in_default.is at c.execute_next.ensures in
    ended limits room rows.columns rows.factors rows.last_address rows.start_address left rows.state (rest_of g.R.Reader.stretch g.R.Offset.ReaderOffset.limit rows) (c.instructions.invariant.rows limits left room has)
    c.execute_next.new.state none.0 none.1 _ refl refl refl refl

pub returns-in-Moves-clause-rows : goal.returns-in-Moves-clause-rows
returns-in-Moves-clause-rows g c = λ limits left room has.
    let stretch = g.R.Reader.stretch in
    let limit = g.R.Offset.ReaderOffset.limit in
    let rows = c.instructions.self in
    let first = rw (c.in-Some.is, c.in-Moves.is) at c.execute_next.ensures in
    moved limits room rows.columns rows.factors rows.last_address rows.start_address left rows.state (rest_of stretch limit rows) (c.instructions.invariant.rows limits left room has)
    stretch limit _ c.execute_next.new.state c.in-Moves.next first _ refl refl refl refl refl refl refl

pub instructions-preserved : goal.instructions-preserved
instructions-preserved g c =
    let rows = c.instructions.self in
    let first = rw (c.in-Some.is, c.in-Writes.is) at c.execute_next.ensures in
    record {
      rows = λ limits left room has.
          wrote limits room rows.columns rows.factors rows.last_address rows.start_address left rows.state (rest_of g.R.Reader.stretch g.R.Offset.ReaderOffset.limit rows) (c.instructions.invariant.rows limits left room has)
          _ c.execute_next.new.state first;
      columns = c.instructions.invariant.columns;
      fewer = omega (arith, c.instructions.invariant.fewer, ap length first.first);
    }
