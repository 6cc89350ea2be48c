use Rattle.frame_table.specs.EntryPrefixViews.{prefix_view}
use Rattle.frame_table.specs.EntryWrites.{setting_by}
use Rattle.frame_table.proofs.Entries.{listed_fde}
use Rattle.frame_table.proofs.fdes.push_fde_or_fault.Goals as goal

pub returns-in-Ok-clause-lists : goal.returns-in-Ok-clause-lists
returns-in-Ok-clause-lists g c =
    let limits = g.S.UnwindContextStorage.limits in
    let s = setting_by g.Section._UnwindSectionPrivate.frame g.Section._UnwindSectionPrivate.extensions limits c.args.listed.now in
    let prefix = prefix_view g.R.Reader.stretch c.args.prefix.now in
    listed_fde s c.args.partial.now _ _ prefix _ c.push_whole_fde.result _ _ c.in-Ok.ensures.fde c.cie_offset_of-cie_offset.ensures c.push_whole_fde.ensures
