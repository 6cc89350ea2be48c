-- Nothing was added yet.
use Rattle.dwarf_frame_instructions.specs.ProgramRows.{program_of}
use Rattle.dwarf_frame_instructions.specs.Programs.{rows_of_program}
use Rattle.framehop_tables.specs.Covered.{row_rules}
use Rattle.framehop_tables.proofs.RowLaws.{begins-none}
use Rattle.framehop_tables.proofs.fdes.add_by_parts.Goals as goal

pub returns-in-None : goal.returns-in-None
returns-in-None g c =
    let rows = rows_of_program g.S.UnwindContextStorage.limits (program_of c.args.program) in
    (c.requires.span.sound, begins-none (row_rules g.A.DwarfUnwinding.rows g.A.RowRules.rule_of) c.args.span c.args.ranges.now rows)
