-- What is known of the own instructions of an FDE's CIE is known for its program.
use Rattle.dwarf_frame_parts.specs.declared.simple_row.Columns.{Columns}
use Rattle.framehop_tables.proofs.ByPartsLaws.{left-known}
use Rattle.framehop_tables.proofs.fdes.add_fde.Goals as goal

pub add_with_left-requires-clause-left : goal.add_with_left-requires-clause-left
add_with_left-requires-clause-left g c =
    let columns : Columns = record { fp = g.A.DwarfUnwinding.fp; ra = g.A.DwarfUnwinding.ra } in
    rw c.left.ensures
    (left-known columns g.S.UnwindContextStorage.limits (g.Section._UnwindSectionPrivate.frame c.args.section.now c.args.bases.now) (g.Section._UnwindSectionPrivate.extensions c.args.section.now)
    c.args.fde.now c.own_row-own.result (rw c.columns_of-columns.ensures.columns at c.own_row-own.ensures.own))
