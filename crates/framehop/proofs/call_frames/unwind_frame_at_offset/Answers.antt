use Rattle.std.proofs.Common.{Ok, Err, Some, refl, sym, ap, ◌∙◌}
use Rattle.framehop_index.specs.SectionTypes.{frame_section_lent}
use Rattle.framehop.specs.Methods.{method_at_offset}
use Rattle.framehop_unwinder.specs.declared.unwinding.UnwindFailure.TheVariants.{OfModule}
use Rattle.framehop.proofs.MethodAnswers.{method-as, nothing-by, offset-nowhere, offset-there}
use Rattle.framehop.proofs.call_frames.unwind_frame_at_offset.Goals as goal

-- the address has too many bits
pub returns-in-Err-clause-answers : goal.returns-in-Err-clause-answers
returns-in-Err-clause-answers g c =
    let section = frame_section_lent c.args.bases c.args.section in
    nothing-by g.A.DwarfUnwinding.rows g.A.DwarfUnwinding.MeetsExpression g.P.AllocationPolicy.limits g.P.AllocationPolicy.may_allocate c.args.is_first_frame _ c.args.regs.now
    (method_at_offset section c.args.base_svma c.args.relative_address c.args.fde_offset) OfModule refl
    (offset-nowhere section c.args.base_svma c.args.relative_address c.args.fde_offset c.in-Err.ensures.none.1)

-- the FDE is read
pub returns-in-Ok-lent_fde_at-clause-answers : goal.returns-in-Ok-lent_fde_at-clause-answers
returns-in-Ok-lent_fde_at-clause-answers g c =
    let section = frame_section_lent c.args.bases c.args.section in
    method-as g.A.DwarfUnwinding.rows g.A.DwarfUnwinding.MeetsExpression g.P.AllocationPolicy.limits g.P.AllocationPolicy.may_allocate c.args.is_first_frame _ _ _ _ _ _ _
    (offset-there section c.args.base_svma c.args.relative_address c.args.fde_offset c.in-Ok.address (Ok c.in-Ok-lent_fde_at.fde) c.in-Ok.ensures.some c.in-Ok.ensures.fits c.in-Ok-lent_fde_at.ensures)
    c.unwind_frame_with_context.ensures.answers

-- or it isn't
pub returns-in-Err-lent_fde_at-clause-answers : goal.returns-in-Err-lent_fde_at-clause-answers
returns-in-Err-lent_fde_at-clause-answers g c =
    let section = frame_section_lent c.args.bases c.args.section in
    nothing-by g.A.DwarfUnwinding.rows g.A.DwarfUnwinding.MeetsExpression g.P.AllocationPolicy.limits g.P.AllocationPolicy.may_allocate c.args.is_first_frame _ c.args.regs.now
    (method_at_offset section c.args.base_svma c.args.relative_address c.args.fde_offset) OfModule refl
    (sym (offset-there section c.args.base_svma c.args.relative_address c.args.fde_offset c.in-Ok.address (Err c.in-Err-lent_fde_at.field-0) c.in-Ok.ensures.some c.in-Ok.ensures.fits c.in-Err-lent_fde_at.ensures))
