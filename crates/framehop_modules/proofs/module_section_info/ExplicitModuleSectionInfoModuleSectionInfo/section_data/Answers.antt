use Rattle.std.proofs.Common.{◌∙◌, ap, sym, refl, Some}
use Rattle.std.specs.Prelude.{option_map}
use Rattle.framehop_modules.specs.ExplicitTable.{kind_named}
use Rattle.framehop_modules.proofs.ExplicitTable.{apart, in_any_case, text-apart, eh_frame-apart, eh_frame_hdr-apart, debug_frame-apart, unwind_info-apart}
use Rattle.framehop_modules.specs.declared.module_section_info.SectionKind.TheVariants.{Text, EhFrame, EhFrameHdr, DebugFrame, UnwindInfo}
use Rattle.framehop_modules.proofs.module_section_info.ExplicitModuleSectionInfoModuleSectionInfo.section_data.Goals as goal

pub returns-in-Text-clause-given : goal.returns-in-Text-clause-given
returns-in-Text-clause-given g c =
    let i = c.args.self.now in
    in_any_case c.take.result _ (record {
      base_svma = refl;
      section_range = refl;
      section_data = λ other differ. ap (option_map g.D.SectionBytes.content)
          (text-apart i c.take.new.self (kind_named other) (apart c.args.name.now other Text (sym c.named.ensures ∙ c.in_ok-named.was ∙ ap (λ k. Some k) c.in-Text.is) differ));
      segment_range = refl;
      segment_data = refl;
    })

pub returns-in-EhFrame-clause-given : goal.returns-in-EhFrame-clause-given
returns-in-EhFrame-clause-given g c =
    let i = c.args.self.now in
    in_any_case c.take-in-EhFrame.result _ (record {
      base_svma = refl;
      section_range = refl;
      section_data = λ other differ. ap (option_map g.D.SectionBytes.content)
          (eh_frame-apart i c.take-in-EhFrame.new.self (kind_named other) (apart c.args.name.now other EhFrame (sym c.named.ensures ∙ c.in_ok-named.was ∙ ap (λ k. Some k) c.in-EhFrame.is) differ));
      segment_range = refl;
      segment_data = refl;
    })

pub returns-in-EhFrameHdr-clause-given : goal.returns-in-EhFrameHdr-clause-given
returns-in-EhFrameHdr-clause-given g c =
    let i = c.args.self.now in
    in_any_case c.take-in-EhFrameHdr.result _ (record {
      base_svma = refl;
      section_range = refl;
      section_data = λ other differ. ap (option_map g.D.SectionBytes.content)
          (eh_frame_hdr-apart i c.take-in-EhFrameHdr.new.self (kind_named other) (apart c.args.name.now other EhFrameHdr (sym c.named.ensures ∙ c.in_ok-named.was ∙ ap (λ k. Some k) c.in-EhFrameHdr.is) differ));
      segment_range = refl;
      segment_data = refl;
    })

pub returns-in-DebugFrame-clause-given : goal.returns-in-DebugFrame-clause-given
returns-in-DebugFrame-clause-given g c =
    let i = c.args.self.now in
    in_any_case c.take-in-DebugFrame.result _ (record {
      base_svma = refl;
      section_range = refl;
      section_data = λ other differ. ap (option_map g.D.SectionBytes.content)
          (debug_frame-apart i c.take-in-DebugFrame.new.self (kind_named other) (apart c.args.name.now other DebugFrame (sym c.named.ensures ∙ c.in_ok-named.was ∙ ap (λ k. Some k) c.in-DebugFrame.is) differ));
      segment_range = refl;
      segment_data = refl;
    })

pub returns-in-UnwindInfo-clause-given : goal.returns-in-UnwindInfo-clause-given
returns-in-UnwindInfo-clause-given g c =
    let i = c.args.self.now in
    in_any_case c.take-in-UnwindInfo.result _ (record {
      base_svma = refl;
      section_range = refl;
      section_data = λ other differ. ap (option_map g.D.SectionBytes.content)
          (unwind_info-apart i c.take-in-UnwindInfo.new.self (kind_named other) (apart c.args.name.now other UnwindInfo (sym c.named.ensures ∙ c.in_ok-named.was ∙ ap (λ k. Some k) c.in-UnwindInfo.is) differ));
      segment_range = refl;
      segment_data = refl;
    })
