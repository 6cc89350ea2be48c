use Rattle.framehop_index.proofs.PartialFdes.{read-in}
use Rattle.framehop_index.proofs.lookups.fde_at_by_last.Goals as goal

pub fde_by_last-requires-clause-within : goal.fde_by_last-requires-clause-within
fde_by_last-requires-clause-within g c =
    let section = g.Section._UnwindSectionPrivate.frame c.args.section.now c.args.bases.now in
    read-in section (g.Section.Offset.UnwindOffset.number c.typed_offset-offset.result) c.in_ok-partial.partial c.in_ok-partial.ensures
