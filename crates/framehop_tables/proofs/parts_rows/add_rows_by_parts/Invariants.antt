use Rattle.std.proofs.Common.{◌≡◌}
use Rattle.dwarf_frame_instructions.specs.ProgramRows.{program_of}
use Rattle.dwarf_frame_instructions.specs.Programs.{rows_of_program}
use Rattle.dwarf_frame_parts.specs.PartsRows.{instructions_left}
use Rattle.framehop_tables.specs.Covered.{row_rules}
use Rattle.framehop_tables.proofs.PartsRowLaws.{Reached}
use Rattle.framehop_tables.proofs.parts_rows.add_rows_by_parts.Given as goal

abbrev pub invariant-rows : goal.invariant-rows
invariant-rows g l =
    let rules = row_rules g.A.DwarfUnwinding.rows g.A.RowRules.rule_of in
    let limits = g.S.UnwindContextStorage.limits in
    Reached g.R.Reader.stretch g.R.Offset.ReaderOffset.limit rules limits (rows_of_program limits (program_of l.fn.program)) l.span l.fn.ranges l.ranges l.rows × (l.rows.columns ≡ l.initial.rows.columns)

abbrev pub decreases-rows : goal.decreases-rows
decreases-rows g l = instructions_left g.R.Reader.stretch g.R.Offset.ReaderOffset.limit l.rows
