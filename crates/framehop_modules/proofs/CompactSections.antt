-- What goes with compact unwind info is as it was before that was handed out.
use Rattle.std.proofs.Common.{◌≡◌, ◌∙◌, ap, refl, ℕ, List, Option}
use Rattle.std.specs.Prelude.{codes}
use Rattle.std.specs.declared.ops.Range.{Range}
use Rattle.framehop_modules.specs.Sections.{Sections, SectionLeft}
use Rattle.framehop_modules.specs.Chosen.{text, compact_sections}
use Rattle.framehop_modules.specs.declared.module_sections.ModuleSections.TheVariants.{CompactUnwindInfoAndEhFrame}
use Rattle.framehop_modules.specs.declared.module_sections.SectionData.{SectionData}

module _ (before between after : Sections) (first : SectionLeft (codes "__unwind_info") before between) (second : SectionLeft (codes "__eh_frame") between after) where
  same_range : (name : List ℕ) → after.section_range name ≡ before.section_range name
  same_range name = ap (λ (f : List ℕ → Option (Range ℕ)). f name) (second.section_range ∙ first.section_range)

  same_text : text after ≡ text before
  same_text = rw (second.segment_range ∙ first.segment_range, second.segment_data ∙ first.segment_data, second.section_range ∙ first.section_range, second.section_data (codes "__text") refl ∙ first.section_data (codes "__text") refl) refl

  pub compact_is : (unwind_info : List ℕ) (eh_frame : Option (List ℕ)) (stubs stub_helper : Option (Range ℕ)) (code : Option (SectionData (List ℕ)))
      → eh_frame ≡ between.section_data (codes "__eh_frame") → stubs ≡ after.section_range (codes "__stubs") → stub_helper ≡ after.section_range (codes "__stub_helper") → code ≡ text after
      → CompactUnwindInfoAndEhFrame unwind_info eh_frame stubs stub_helper code ≡ compact_sections before unwind_info
  compact_is unwind_info eh_frame stubs stub_helper code frames at_stubs at_helpers codes_is =
      let e = frames ∙ first.section_data (codes "__eh_frame") refl in
      let s = at_stubs ∙ same_range (codes "__stubs") in
      let h = at_helpers ∙ same_range (codes "__stub_helper") in
      let t = codes_is ∙ same_text in
      rw (e, s, h, t) refl
