use Rattle.std.proofs.Common.{◌+◌, ap, refl, sym, ◌∙◌}
use Rattle.framehop_index.specs.FdeLookups.{FoundFde, section_of}
use Rattle.framehop_index.specs.SectionTypes.{frame_section_lent, section_of_type}
use Rattle.framehop.specs.Methods.{method_by_frames, method_found}
use Rattle.framehop_unwinder.specs.declared.unwinding.UnwindFailure.TheVariants.{OfModule}
use Rattle.framehop.proofs.MethodAnswers.{found-as, method-as, nothing-by}
use Rattle.framehop.proofs.call_frames.unwind_frame_by_found.Goals as goal

-- the FDE isn't known
pub returns-in-Err-clause-answers : goal.returns-in-Err-clause-answers
returns-in-Err-clause-answers g c =
    let frames = c.args.frames.now in
    let relative = c.args.relative_address in
    nothing-by g.A.DwarfUnwinding.rows g.A.DwarfUnwinding.MeetsExpression g.P.AllocationPolicy.limits g.P.AllocationPolicy.may_allocate c.args.is_first_frame _ c.args.regs.now (method_by_frames frames relative) OfModule refl
    (ap (λ (f : FoundFde). method_found (section_of frames) (frames.base_svma + relative) f) (sym c.requires.found ∙ c.in-Err.is))

-- it is
pub returns-in-Ok-lookup_address-clause-answers : goal.returns-in-Ok-lookup_address-clause-answers
returns-in-Ok-lookup_address-clause-answers g c =
    let frames = c.args.frames.now in
    let relative = c.args.relative_address in
    method-as g.A.DwarfUnwinding.rows g.A.DwarfUnwinding.MeetsExpression g.P.AllocationPolicy.limits g.P.AllocationPolicy.may_allocate c.args.is_first_frame _ _ _ _ _ _ _
    (found-as (section_of frames) (frame_section_lent c.bases.result c.section.result) (frames.base_svma + relative) c.in-Ok-lookup_address.address c.in-Ok.known _
    (ap (λ t. section_of_type c.bases.result.now t) c.section.ensures ∙ ap (λ b. section_of_type b frames.section) c.bases.ensures)
    (c.in-Ok-lookup_address.ensures.some ∙ ap (λ n. n + relative) c.base_svma.ensures)
    (sym c.requires.found ∙ c.in-Ok.is))
    c.unwind_frame_with_context.ensures.answers
