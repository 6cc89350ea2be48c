use Rattle.std.proofs.Common.{◌∙◌, ap, sym, refl, Some}
use Rattle.std.specs.Prelude.{option_map}
use Rattle.framehop_modules.specs.PeTable.{pe_kind_named}
use Rattle.framehop_modules.proofs.ExplicitTable.{in_any_case}
use Rattle.framehop_modules.proofs.PeTable.{pe-apart, pdata-apart, rdata-apart, xdata-apart, pe-text-apart}
use Rattle.framehop_modules.specs.declared.pe_section_info.PeSectionKind.TheVariants.{Pdata, Rdata, Xdata, Text}
use Rattle.framehop_modules.proofs.pe_section_info.PeModuleSectionInfoModuleSectionInfo.section_data.Goals as goal

pub returns-in-Pdata-clause-given : goal.returns-in-Pdata-clause-given
returns-in-Pdata-clause-given g c =
    let i = c.args.self.now in
    in_any_case c.take.result _ (record {
      base_svma = refl;
      section_range = refl;
      section_data = λ other differ. ap (option_map g.D.SectionBytes.content)
          (pdata-apart i c.take.new.self (pe_kind_named other) (pe-apart c.args.name.now other Pdata (sym c.named.ensures ∙ c.in_ok-named.was ∙ ap (λ k. Some k) c.in-Pdata.is) differ));
      segment_range = refl;
      segment_data = refl;
    })

pub returns-in-Rdata-clause-given : goal.returns-in-Rdata-clause-given
returns-in-Rdata-clause-given g c =
    let i = c.args.self.now in
    in_any_case c.take-in-Rdata.result _ (record {
      base_svma = refl;
      section_range = refl;
      section_data = λ other differ. ap (option_map g.D.SectionBytes.content)
          (rdata-apart i c.take-in-Rdata.new.self (pe_kind_named other) (pe-apart c.args.name.now other Rdata (sym c.named.ensures ∙ c.in_ok-named.was ∙ ap (λ k. Some k) c.in-Rdata.is) differ));
      segment_range = refl;
      segment_data = refl;
    })

pub returns-in-Xdata-clause-given : goal.returns-in-Xdata-clause-given
returns-in-Xdata-clause-given g c =
    let i = c.args.self.now in
    in_any_case c.take-in-Xdata.result _ (record {
      base_svma = refl;
      section_range = refl;
      section_data = λ other differ. ap (option_map g.D.SectionBytes.content)
          (xdata-apart i c.take-in-Xdata.new.self (pe_kind_named other) (pe-apart c.args.name.now other Xdata (sym c.named.ensures ∙ c.in_ok-named.was ∙ ap (λ k. Some k) c.in-Xdata.is) differ));
      segment_range = refl;
      segment_data = refl;
    })

pub returns-in-Text-clause-given : goal.returns-in-Text-clause-given
returns-in-Text-clause-given g c =
    let i = c.args.self.now in
    in_any_case c.take-in-Text.result _ (record {
      base_svma = refl;
      section_range = refl;
      section_data = λ other differ. ap (option_map g.D.SectionBytes.content)
          (pe-text-apart i c.take-in-Text.new.self (pe_kind_named other) (pe-apart c.args.name.now other Text (sym c.named.ensures ∙ c.in_ok-named.was ∙ ap (λ k. Some k) c.in-Text.is) differ));
      segment_range = refl;
      segment_data = refl;
    })
