use Rattle.std.proofs.Common.{Bool, List, ℕ, None, Option, ap, sym, ◌∙◌}
use Rattle.std.specs.Prelude.{codes, if◌then◌else◌}
use Rattle.framehop_modules.specs.Chosen.{chosen_sections}
use Rattle.framehop_modules.specs.Sections.{Sections}
use Rattle.framehop_modules.specs.declared.module_sections.ModuleSections.{ModuleSections}
use Rattle.framehop_loads.specs.UnwindData.{format_with}
use Rattle.framehop_loads.proofs.BothSections.{alone-is, asked-for, beside-is}
use Rattle.framehop_loads.proofs.unwind_data.choose.Goals as goal

-- there is none
pub returns-in_default-clause-chosen : goal.returns-in_default-clause-chosen
returns-in_default-clause-chosen g c bases base =
    let options = c.args.options in
    let s = g.I.ModuleSectionInfo.sections c.args.info.now in
    ap (λ (m : ModuleSections (List ℕ)). format_with options bases base None m) c.choose-in_default.ensures.chosen
    ∙ ap (λ (t : Sections). format_with options bases base None (chosen_sections t)) c.in_default.ensures.none
    ∙ ap (λ (o : Option (List ℕ)). format_with options bases base o (chosen_sections s)) c.in_default.ensures.data_
    ∙ ap (λ (b : Bool). format_with options bases base (if b then s.section_data (codes ".debug_frame") else None) (chosen_sections s)) (sym (asked-for c.args.options.debug_frame_beside c.if-not-options.false))

-- it is the only one
pub returns-in-DebugFrame-clause-chosen : goal.returns-in-DebugFrame-clause-chosen
returns-in-DebugFrame-clause-chosen g c bases base =
    alone-is g.D.SectionBytes.content c.args.options (asked-for c.args.options.debug_frame_beside c.if-not-options.false) (g.I.ModuleSectionInfo.sections c.args.info.now) (g.I.ModuleSectionInfo.sections c.section_data.new.self) c.in-Some.ensures.given _
    c.in-Some.ensures.data_ c.choose-2.result c.choose-2.ensures.chosen bases base c.in-DebugFrame.is

-- it is beside another
pub returns-in_default-choose-clause-chosen : goal.returns-in_default-choose-clause-chosen
returns-in_default-choose-clause-chosen g c bases base =
    beside-is g.D.SectionBytes.content c.args.options (asked-for c.args.options.debug_frame_beside c.if-not-options.false) (g.I.ModuleSectionInfo.sections c.args.info.now) (g.I.ModuleSectionInfo.sections c.section_data.new.self) c.in-Some.ensures.given _
    c.in-Some.ensures.data_ c.choose-2.result c.choose-2.ensures.chosen bases base c.in_default-choose.not-DebugFrame c.in_default-choose.not-NoSections
