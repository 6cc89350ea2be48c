use Rattle.std.proofs.Common.{inl, sym, ◌∙◌}
use Rattle.std.proofs.lemmas.Result.{err_from_is_err_and}
use Rattle.dwarf_call_frames.specs.HeaderEntries.{eh_frame_in}
use Rattle.dwarf_call_frames.proofs.NamedEntries.{fde-containing, fde-outside, fde-refused, offset-named}
use Rattle.dwarf_call_frames.proofs.table.EhHdrTable.fde_for_address.Goals as goal

pub returns-in_err-fde : goal.returns-in_err-fde
returns-in_err-fde g c may_allocate same =
    let section = eh_frame_in g.R.Reader.stretch g.R.Offset.ReaderOffset.limit c.args.frame.now c.args.bases.now in
    let from = err_from_is_err_and c.from_residual-in_err-fde.result c.from_residual-in_err-fde.ensures.1 in
    rw (from.1, from.2) (fde-refused section c.args.bases.now c.args.self.now c.args.address (g.R.Offset.ReaderOffset.value c.in_ok-offset.offset.0)
    (offset-named section.limit c.args.bases.now c.args.self.now c.args.address c.in_ok-pointer.pointer _ c.in_ok-pointer.ensures c.in_ok-offset.ensures) may_allocate c.in_err-fde.field-0.0 (c.in_err-fde.ensures may_allocate same))

pub returns-then-contains : goal.returns-then-contains
returns-then-contains g c may_allocate same =
    let section = eh_frame_in g.R.Reader.stretch g.R.Offset.ReaderOffset.limit c.args.frame.now c.args.bases.now in
    fde-containing section c.args.bases.now c.args.self.now c.args.address (g.R.Offset.ReaderOffset.value c.in_ok-offset.offset.0)
    (offset-named section.limit c.args.bases.now c.args.self.now c.args.address c.in_ok-pointer.pointer _ c.in_ok-pointer.ensures c.in_ok-offset.ensures) c.in_ok-fde.fde (c.in_ok-fde.ensures may_allocate same) (sym c.contains.ensures ∙ c.if-contains.true)

pub returns-else-contains : goal.returns-else-contains
returns-else-contains g c may_allocate same =
    let section = eh_frame_in g.R.Reader.stretch g.R.Offset.ReaderOffset.limit c.args.frame.now c.args.bases.now in
    inl (fde-outside section c.args.bases.now c.args.self.now c.args.address (g.R.Offset.ReaderOffset.value c.in_ok-offset.offset.0)
    (offset-named section.limit c.args.bases.now c.args.self.now c.args.address c.in_ok-pointer.pointer _ c.in_ok-pointer.ensures c.in_ok-offset.ensures) c.in_ok-fde.fde (c.in_ok-fde.ensures may_allocate same) (sym c.contains.ensures ∙ c.if-contains.false))
