use Rattle.std.proofs.Common.{sym, subst, ◌∙◌}
use Rattle.dwarf_frame_instructions.specs.Programs.{row_among}
use Rattle.dwarf_frame_parts.specs.declared.parts_rows.PartsAt.TheVariants.{Found}
use Rattle.dwarf_frame_parts.specs.declared.simple_row.Columns.{Columns}
use Rattle.dwarf_frame_parts.specs.declared.simple_row.SimpleRow.{SimpleRow}
use Rattle.dwarf_frame_parts.specs.Answers.{IsPartsAt}
use Rattle.dwarf_frame_parts.proofs.RowsLeft.{found-last, found-next, none-found, passed-next}
use Rattle.dwarf_frame_parts.proofs.parts_rows.PartsRows.find.Goals as goal

pub returns-in-Row : goal.returns-in-Row
returns-in-Row g c = λ limits left room has.
    let stretch = g.R.Reader.stretch in
    let limit = g.R.Offset.ReaderOffset.limit in
    let known = c.rows.invariant.passed limits left room has in
    let goes = c.in-Row.ensures.rows limits known.others room known.has in
    let found = found-next stretch limit limits c.args.address left c.rows.rows known c.advance.new.self goes c.if-contains.ensures in
    let answer = row_among c.args.address left in
    subst (λ (k : Columns). IsPartsAt k answer (Found c.row.result)) (c.advance.ensures.columns ∙ c.rows.invariant.columns)
    (subst (λ (r : SimpleRow). IsPartsAt c.advance.new.self.columns answer (Found r)) (sym c.row.ensures) found)

pub rows-preserved : goal.rows-preserved
rows-preserved g c = record {
  passed = λ limits left room has.
      let known = c.rows.invariant.passed limits left room has in
      let goes = c.in-Row.ensures.rows limits known.others room known.has in
      passed-next g.R.Reader.stretch g.R.Offset.ReaderOffset.limit limits c.args.address left c.rows.rows known c.advance.new.self goes c.if-contains.ensures;
  columns = c.advance.ensures.columns ∙ c.rows.invariant.columns;
}

pub returns-in-LastRow : goal.returns-in-LastRow
returns-in-LastRow g c = λ limits left room has.
    let stretch = g.R.Reader.stretch in
    let limit = g.R.Offset.ReaderOffset.limit in
    let known = c.rows.invariant.passed limits left room has in
    let last = c.in-LastRow.ensures.rows limits known.others room known.has in
    let found = found-last stretch limit limits c.args.address left c.rows.rows known c.advance.new.self last c.if-contains-2.ensures in
    let answer = row_among c.args.address left in
    subst (λ (k : Columns). IsPartsAt k answer (Found c.row-in-LastRow.result)) (c.advance.ensures.columns ∙ c.rows.invariant.columns)
    (subst (λ (r : SimpleRow). IsPartsAt c.advance.new.self.columns answer (Found r)) (sym c.row-in-LastRow.ensures) found)

pub returns-in-LastRow-2 : goal.returns-in-LastRow-2
returns-in-LastRow-2 g c = λ limits left room has.
    let stretch = g.R.Reader.stretch in
    let limit = g.R.Offset.ReaderOffset.limit in
    let known = c.rows.invariant.passed limits left room has in
    let last = c.in-LastRow.ensures.rows limits known.others room known.has in
    none-found stretch limit limits c.args.address left c.rows.rows known c.advance.new.self last c.if-contains-2.ensures
