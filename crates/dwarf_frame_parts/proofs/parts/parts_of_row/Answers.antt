use Rattle.dwarf_frame_parts.proofs.PartsOfRows.{parts-alike}
use Rattle.dwarf_frame_parts.proofs.parts.parts_of_row.Goals as goal

pub returns : goal.returns
returns g c =
    let number = g.T.ReaderOffset.value in
    rw (c.cfa.ensures, c.register.ensures, c.register-2.ensures) (parts-alike number c.args.fp c.args.ra c.args.row.now)
