use Rattle.std.proofs.Common.{Ok, sym}
use Rattle.framehop_index.specs.SectionTypes.{frame_section_lent}
use Rattle.framehop.proofs.CoverageAnswers.{covered-as, scan-there}
use Rattle.framehop.proofs.dwarf.DwarfUnwinder.unwind_frame_by_scan.Goals as goal

pub returns-in-Ok-clause-answers : goal.returns-in-Ok-clause-answers
returns-in-Ok-clause-answers g c =
    let u = c.args.self.now in
    covered-as g.A.DwarfUnwinding.rows g.A.DwarfUnwinding.MeetsExpression c.args.is_first_frame g.ES.Stack.ArrayLike.capacity _ _ _ _ _ _ _
    (sym (scan-there g.UCS.UnwindContextStorage.limits g.A.DwarfUnwinding.rows.vendor (frame_section_lent u.bases u.section) u.base_svma c.args.relative_address c.in_ok-address.address c.in_ok-address.ensures.some
    c.in_ok-address.ensures.fits (Ok c.in-Ok.known) (sym c.in-Ok.ensures)))
    c.unwind_frame_by_known_fde.ensures.answers
