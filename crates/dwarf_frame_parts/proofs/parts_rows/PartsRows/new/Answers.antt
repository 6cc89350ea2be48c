use Rattle.std.proofs.Common.{refl, sym}
use Rattle.dwarf_frame_parts.proofs.RowsLeft.{has-all}
use Rattle.dwarf_frame_parts.proofs.parts_rows.PartsRows.new.Goals as goal

pub returns-clause-rows : goal.returns-clause-rows
returns-clause-rows g c = λ limits own room leaves.
    let left = leaves limits room in
    let program = c.args.program in
    has-all g.R.Reader.stretch g.R.Offset.ReaderOffset.limit limits c.args.columns c.requires.apart program own c.args.left.row left
    c.new.result (c.new.ensures c.args.columns limits program.factors own left c.requires.apart)
    _ refl refl refl refl refl (sym c.into_parts-coding.ensures)
