use Rattle.std.proofs.Common.{◌^◌, false, ap, sym, ◌∙◌}
use Rattle.dwarf_readers.specs.EndianSlice.{stretch_of}
use Rattle.dwarf_frame_rows.specs.FrameSection.{FrameSection, frame_section}
use Rattle.dwarf_frame_sections.specs.Sections.{FrameData, eh_frame, debug_frame}
use Rattle.framehop_index.specs.SectionTypes.{frame_section_bytes, section_of_type}
use Rattle.framehop_loads.specs.StepLimits.{row_limits}
use Rattle.framehop_loads.proofs.SectionsMade.{section-made}
use Rattle.framehop_loads.proofs.Tabulations.{made-as}
use Rattle.framehop_loads.proofs.tabulation.table_of.Goals as goal

pub returns-in-EhFrame : goal.returns-in-EhFrame
returns-in-EhFrame g c =
    let bases = c.args.bases.now in
    let bytes = c.in-EhFrame.bytes.now in
    let made = c.new-section.result in
    let frame : FrameData _ → FrameSection = λ d. frame_section (2 ^ 64) eh_frame d.address_size (stretch_of (λ e. false) d.reader) bases in
    let set = ap frame c.set_vendor.ensures ∙ section-made (stretch_of (λ e. false)) eh_frame made bytes bases c.new-section.ensures.section c.new-section.ensures.others
    ∙ sym (ap (λ t. section_of_type bases (frame_section_bytes (λ b. b.now) t)) c.in-EhFrame.is) in
    let vendor = ap (λ d. d.vendor) c.set_vendor.ensures ∙ c.vendor.ensures in
    made-as g.A.DwarfUnwinding.rows g.A.RowRules.rule_of _ row_limits _ _ c.args.base_svma _ _ vendor set c.by_index.ensures

pub returns : goal.returns
returns g c =
    let bases = c.args.bases.now in
    let bytes = c.in-DebugFrame.bytes.now in
    let made = c.new-section-in-DebugFrame.result in
    let frame : FrameData _ → FrameSection = λ d. frame_section (2 ^ 64) debug_frame d.address_size (stretch_of (λ e. false) d.reader) bases in
    let set = ap frame c.set_vendor-in-DebugFrame.ensures ∙ section-made (stretch_of (λ e. false)) debug_frame made bytes bases c.new-section-in-DebugFrame.ensures.section c.new-section-in-DebugFrame.ensures.others
    ∙ sym (ap (λ t. section_of_type bases (frame_section_bytes (λ b. b.now) t)) c.in-DebugFrame.is) in
    let vendor = ap (λ d. d.vendor) c.set_vendor-in-DebugFrame.ensures ∙ c.vendor-in-DebugFrame.ensures in
    made-as g.A.DwarfUnwinding.rows g.A.RowRules.rule_of _ row_limits _ _ c.args.base_svma _ _ vendor set c.by_index-in-DebugFrame.ensures
