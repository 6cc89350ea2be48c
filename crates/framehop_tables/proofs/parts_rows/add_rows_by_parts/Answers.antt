-- Each row is the first of those that were left.
use Rattle.std.proofs.Common.{◌≡◌, ℕ, ◌<◌, ◌≤◌, refl, sym, subst, arith, ◌∙◌}
use Rattle.dwarf_frame_rows.specs.Row.{Row}
use Rattle.dwarf_frame_instructions.specs.ProgramRows.{program_of}
use Rattle.dwarf_frame_instructions.specs.Programs.{rows_of_program}
use Rattle.dwarf_frame_parts.specs.declared.simple_row.Columns.{Columns}
use Rattle.dwarf_frame_parts.specs.RowParts.{parts_of}
use Rattle.dwarf_cie_rows.specs.OwnRows.{AreLeftIn}
use Rattle.framehop_tables.specs.Covered.{row_rules}
use Rattle.framehop_tables.proofs.PartsRowLaws.{ended, moved, moved-past, reached-first}
use Rattle.framehop_tables.proofs.parts_rows.add_rows_by_parts.Goals as goal

pub rows-init : goal.rows-init
rows-init g c =
    let rules = row_rules g.A.DwarfUnwinding.rows g.A.RowRules.rule_of in
    let limits = g.S.UnwindContextStorage.limits in
    let program = program_of c.args.program in
    let left : AreLeftIn c.columns_of.result program c.args.left = subst (λ (k : Columns). AreLeftIn k program c.args.left) (sym c.columns_of.ensures.columns) c.requires.left in
    let has = c.new-rows.ensures.rows limits program.initial_instructions c.requires.room left in (
      reached-first g.R.Reader.stretch g.R.Offset.ReaderOffset.limit rules limits (rows_of_program limits program) c.args.span c.args.ranges.now c.new-rows.result has c.requires.sound (omega (arith, c.if-span-done.false, c.done.ensures)),
      refl,
    )

pub returns-then-span-done-2 : goal.returns-then-span-done-2
returns-then-span-done-2 g c =
    let rules = row_rules g.A.DwarfUnwinding.rows g.A.RowRules.rule_of in
    let limits = g.S.UnwindContextStorage.limits in
    let known = c.rows.invariant.0 in
    let same = c.advance.ensures.columns ∙ c.rows.invariant.1 ∙ c.new-rows.ensures.columns in
    let of_parts = subst (λ (k : Columns). (row : Row ℕ) → g.A.RowRules.rule_of row ≡ g.A.RowRules.rule_of_parts (parts_of k.fp k.ra row)) (sym same) c.columns_of.ensures.parts in
    let past : c.args.span.limit ≤ c.add_covered.new.ranges.done = omega (arith, c.if-span-done-2.true, c.done-in-Row.ensures) in
    moved-past g.R.Reader.stretch g.R.Offset.ReaderOffset.limit rules limits (rows_of_program limits (program_of c.args.program)) c.args.span c.args.ranges.now c.rows.ranges c.rows.rows known c.advance.new.self g.A.RowRules.rule_of_parts of_parts
    c.covered_by_parts-covered.result (rw c.row.ensures at c.covered_by_parts-covered.ensures.covered) c.add_covered.new.ranges (rw c.end_address.ensures at c.in_ok-add_covered-in-Row.ensures)
    (c.in-Row.ensures.rows limits known.left c.requires.room known.has) past

pub rows-preserved : goal.rows-preserved
rows-preserved g c =
    let rules = row_rules g.A.DwarfUnwinding.rows g.A.RowRules.rule_of in
    let limits = g.S.UnwindContextStorage.limits in
    let known = c.rows.invariant.0 in
    let same = c.advance.ensures.columns ∙ c.rows.invariant.1 ∙ c.new-rows.ensures.columns in
    let of_parts = subst (λ (k : Columns). (row : Row ℕ) → g.A.RowRules.rule_of row ≡ g.A.RowRules.rule_of_parts (parts_of k.fp k.ra row)) (sym same) c.columns_of.ensures.parts in
    let more : c.add_covered.new.ranges.done < c.args.span.limit = omega (arith, c.if-span-done-2.false, c.done-in-Row.ensures) in (
      moved g.R.Reader.stretch g.R.Offset.ReaderOffset.limit rules limits (rows_of_program limits (program_of c.args.program)) c.args.span c.args.ranges.now c.rows.ranges c.rows.rows known c.advance.new.self g.A.RowRules.rule_of_parts of_parts
          c.covered_by_parts-covered.result (rw c.row.ensures at c.covered_by_parts-covered.ensures.covered) c.add_covered.new.ranges (rw c.end_address.ensures at c.in_ok-add_covered-in-Row.ensures)
          (c.in-Row.ensures.rows limits known.left c.requires.room known.has) more,
      c.advance.ensures.columns ∙ c.rows.invariant.1,
    )

pub returns-in-LastRow : goal.returns-in-LastRow
returns-in-LastRow g c =
    let rules = row_rules g.A.DwarfUnwinding.rows g.A.RowRules.rule_of in
    let limits = g.S.UnwindContextStorage.limits in
    let known = c.rows.invariant.0 in
    let same = c.advance.ensures.columns ∙ c.rows.invariant.1 ∙ c.new-rows.ensures.columns in
    let of_parts = subst (λ (k : Columns). (row : Row ℕ) → g.A.RowRules.rule_of row ≡ g.A.RowRules.rule_of_parts (parts_of k.fp k.ra row)) (sym same) c.columns_of.ensures.parts in
    ended g.R.Reader.stretch g.R.Offset.ReaderOffset.limit rules limits (rows_of_program limits (program_of c.args.program)) c.args.span c.args.ranges.now c.rows.ranges c.rows.rows known c.advance.new.self g.A.RowRules.rule_of_parts of_parts
    c.covered_by_parts-covered-in-LastRow.result (rw c.row-in-LastRow.ensures at c.covered_by_parts-covered-in-LastRow.ensures.covered) c.add_covered-in-LastRow.new.ranges (rw c.end_address-in-LastRow.ensures at c.in_ok-add_covered-in-LastRow.ensures)
    (c.in-LastRow.ensures.rows limits known.left c.requires.room known.has) c.extend.new.ranges
    (rw c.rule_if_uncovered_by_fde.ensures.rule at c.in_ok-extend-in-LastRow.ensures)
