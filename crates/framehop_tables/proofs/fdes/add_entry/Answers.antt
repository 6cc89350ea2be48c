use Rattle.std.proofs.lemmas.Result.{IfOk-weaker}
use Rattle.dwarf_frame_entries.proofs.Laws.{fde_cie_there}
use Rattle.framehop_tables.specs.Covered.{tabulated}
use Rattle.framehop_tables.proofs.IndexLaws.{adds-fde}
use Rattle.framehop_tables.proofs.fdes.add_entry.Goals as goal

pub returns-in-Ok-clause-adds : goal.returns-in-Ok-clause-adds
returns-in-Ok-clause-adds g c =
    let t = tabulated g.A.DwarfUnwinding.rows g.A.RowRules.rule_of g.S.UnwindContextStorage.limits (g.Section._UnwindSectionPrivate.extensions c.args.section.now) c.args.span.base_svma
    (g.Section._UnwindSectionPrivate.frame c.args.section.now c.args.bases.now) in
    IfOk-weaker c.add_fde.result _ _ (λ _ adds. adds-fde t c.args.span c.args.ranges.now c.add_fde.new.ranges c.in-Ok.fde _ (rw c.in-Ok.is at c.requires.read) adds) c.add_fde.ensures.adds

pub add_fde-requires-clause-there : goal.add_fde-requires-clause-there
add_fde-requires-clause-there g c =
    fde_cie_there (g.Section._UnwindSectionPrivate.frame c.args.section.now c.args.bases.now) _ c.in-Ok.fde (rw c.in-Ok.is at c.requires.read)
