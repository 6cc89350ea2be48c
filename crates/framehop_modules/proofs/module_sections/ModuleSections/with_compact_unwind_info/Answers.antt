use Rattle.std.proofs.Common.{◌∙◌, ap, codes}
use Rattle.std.specs.Prelude.{option_map}
use Rattle.framehop_modules.specs.Sections.{Sections}
use Rattle.framehop_modules.specs.Chosen.{text}
use Rattle.framehop_modules.specs.ChosenViews.{section_bytes}
use Rattle.framehop_modules.proofs.CompactSections.{compact_is}
use Rattle.framehop_modules.proofs.module_sections.ModuleSections.with_compact_unwind_info.Goals as goal

pub returns : goal.returns
returns g c = λ before left.
    let content = g.D.SectionBytes.content in
    let helpers = c.section_svma_range-stub_helper_svma in
    let stubs = c.section_svma_range-stubs_svma in
    let same_stubs = stubs.ensures.same in
    let same_helpers = helpers.ensures.same ∙ same_stubs in
    compact_is before (g.I.ModuleSectionInfo.sections c.args.info.now) (g.I.ModuleSectionInfo.sections c.data_of-eh_frame.new.info) left c.data_of-eh_frame.ensures.left
    (content c.args.unwind_info) (option_map content c.data_of-eh_frame.result) stubs.result helpers.result (option_map (section_bytes content) c.text_of-text.result)
    c.data_of-eh_frame.ensures.data_ stubs.ensures.range
    (helpers.ensures.range ∙ ap (λ (s : Sections). s.section_range (codes "__stub_helper")) same_stubs)
    (c.text_of-text.ensures ∙ ap text same_helpers)
