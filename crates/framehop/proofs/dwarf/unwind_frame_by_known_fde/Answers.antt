use Rattle.std.proofs.Common.{◌^◌, false, ap, sym, ◌∙◌}
use Rattle.dwarf_readers.specs.EndianSlice.{stretch_of}
use Rattle.dwarf_frame_rows.specs.FrameSection.{FrameSection, frame_section}
use Rattle.dwarf_frame_sections.specs.Sections.{FrameData, eh_frame, debug_frame}
use Rattle.framehop_index.specs.SectionTypes.{frame_section_bytes, section_of_type}
use Rattle.framehop.proofs.CoverageAnswers.{covered-as, known-there}
use Rattle.framehop.proofs.SectionsMade.{section-made}
use Rattle.framehop.proofs.dwarf.unwind_frame_by_known_fde.Goals as goal

pub returns-in-EhFrame-clause-answers : goal.returns-in-EhFrame-clause-answers
returns-in-EhFrame-clause-answers g c =
    let bases = c.args.bases.now in
    let bytes = c.in-EhFrame.bytes.now in
    let made = c.new-section.result in
    let frame : FrameData _ → FrameSection = λ d. frame_section (2 ^ 64) eh_frame d.address_size (stretch_of (λ e. false) d.reader) bases in
    let set = ap frame c.set_vendor.ensures ∙ section-made (stretch_of (λ e. false)) eh_frame made bytes bases c.new-section.ensures.section c.new-section.ensures.others
    ∙ sym (ap (λ t. section_of_type bases (frame_section_bytes (λ b. b.now) t)) c.in-EhFrame.is) in
    let vendor = ap (λ d. d.vendor) c.set_vendor.ensures ∙ c.vendor.ensures in
    covered-as g.A.DwarfUnwinding.rows g.A.DwarfUnwinding.MeetsExpression c.args.is_first_frame g.ES.Stack.ArrayLike.capacity _ _ _ _ _ _ _
    (known-there g.UCS.UnwindContextStorage.limits g.A.DwarfUnwinding.rows.vendor _ _ _ c.args.address c.in-Some.fde c.args.known.now vendor set c.in-Some.is)
    c.unwind_frame_by_fde.ensures.answers

pub returns-in-DebugFrame-clause-answers : goal.returns-in-DebugFrame-clause-answers
returns-in-DebugFrame-clause-answers g c =
    let bases = c.args.bases.now in
    let bytes = c.in-DebugFrame.bytes.now in
    let made = c.new-section-in-DebugFrame.result in
    let frame : FrameData _ → FrameSection = λ d. frame_section (2 ^ 64) debug_frame d.address_size (stretch_of (λ e. false) d.reader) bases in
    let set = ap frame c.set_vendor-in-DebugFrame.ensures ∙ section-made (stretch_of (λ e. false)) debug_frame made bytes bases c.new-section-in-DebugFrame.ensures.section c.new-section-in-DebugFrame.ensures.others
    ∙ sym (ap (λ t. section_of_type bases (frame_section_bytes (λ b. b.now) t)) c.in-DebugFrame.is) in
    let vendor = ap (λ d. d.vendor) c.set_vendor-in-DebugFrame.ensures ∙ c.vendor-in-DebugFrame.ensures in
    covered-as g.A.DwarfUnwinding.rows g.A.DwarfUnwinding.MeetsExpression c.args.is_first_frame g.ES.Stack.ArrayLike.capacity _ _ _ _ _ _ _
    (known-there g.UCS.UnwindContextStorage.limits g.A.DwarfUnwinding.rows.vendor _ _ _ c.args.address c.in-Some.fde c.args.known.now vendor set c.in-Some.is)
    c.unwind_frame_by_fde-in-DebugFrame.ensures.answers
