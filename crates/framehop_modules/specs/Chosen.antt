-- Which of a module's sections are taken to unwind by, and the starts of the sections that pointers are relative to.
use Rattle.std.specs.Prelude.{ℕ, List, [], ◌∷◌, Option, option_map, option_and_then, unwrap_or, codes}
use Rattle.std.specs.Option.{option_or}
use Rattle.std.specs.declared.ops.Range.{Range}
use Rattle.list_laws.specs.First.{first_some}
use Rattle.framehop_modules.specs.Sections.{Sections}
use Rattle.framehop_modules.specs.declared.module_sections.BaseSvmas.{BaseSvmas}
use Rattle.framehop_modules.specs.declared.module_sections.ModuleSections.{ModuleSections}
use Rattle.framehop_modules.specs.declared.module_sections.ModuleSections.TheVariants.{CompactUnwindInfoAndEhFrame, PeUnwindInfo, EhFrame, DebugFrame, NoSections}
use Rattle.framehop_modules.specs.declared.module_sections.SectionData.{SectionData}

-- data with its stated range, if there are both
abbrev pub with_range : Option (Range ℕ) → Option (List ℕ) → Option (SectionData (List ℕ))
with_range range bytes =
    option_and_then (λ svma_range. option_map (λ b. record { bytes = b; svma_range = svma_range }) bytes) range

-- a section, or a segment, that has both
abbrev pub whole_section : Sections → List ℕ → Option (SectionData (List ℕ))
whole_section s name = with_range (s.section_range name) (s.section_data name)

-- a segment with its range, if it has both
abbrev pub whole_segment : Sections → List ℕ → Option (SectionData (List ℕ))
whole_segment s name = with_range (s.segment_range name) (s.segment_data name)

-- data under the first of two names that has some
abbrev pub either_data : Sections → List ℕ → List ℕ → Option (List ℕ)
either_data s name other = option_or (s.section_data name) (s.section_data other)

-- the code of a Mach-O file: the segment `__TEXT`, else the section `__text`
abbrev pub text : Sections → Option (SectionData (List ℕ))
text s = option_or (whole_segment s (codes "__TEXT")) (whole_section s (codes "__text"))

-- the section of code: `.text`, else `__text`
abbrev pub text_section : Sections → Option (SectionData (List ℕ))
text_section s = option_or (whole_section s (codes ".text")) (whole_section s (codes "__text"))

-- of a Mach-O file the compact unwind info; with it go the call frame information, the ranges of stubs and stub helpers, and
-- the code
abbrev pub compact_sections : Sections → List ℕ → ModuleSections (List ℕ)
compact_sections s unwind_info =
    CompactUnwindInfoAndEhFrame unwind_info (s.section_data (codes "__eh_frame"))
    (s.section_range (codes "__stubs")) (s.section_range (codes "__stub_helper")) (text s)

-- of a PE file the function table; with it go the sections that its unwind infos and their code may be in
abbrev pub pe_sections : Sections → List ℕ → ModuleSections (List ℕ)
pe_sections s pdata =
    PeUnwindInfo pdata (whole_section s (codes ".rdata")) (whole_section s (codes ".xdata")) (whole_section s (codes ".text"))

-- call frame information, with its table of entries if there is one
abbrev pub eh_frame_sections : Sections → List ℕ → ModuleSections (List ℕ)
eh_frame_sections s bytes = EhFrame bytes (either_data s (codes ".eh_frame_hdr") (codes "__eh_frame_hdr"))

-- the ways to unwind a module, the preferred first, each if the module has the section
abbrev pub candidates : Sections → List (Option (ModuleSections (List ℕ)))
candidates s =
    option_map (compact_sections s) (s.section_data (codes "__unwind_info"))
    ∷ option_map (pe_sections s) (s.section_data (codes ".pdata"))
    ∷ option_map (eh_frame_sections s) (either_data s (codes ".eh_frame") (codes "__eh_frame"))
    ∷ option_map DebugFrame (s.section_data (codes ".debug_frame"))
    ∷ []

-- the first of them that there is
abbrev pub chosen_sections : Sections → ModuleSections (List ℕ)
chosen_sections s = unwrap_or (first_some (candidates s)) NoSections

-- where a section starts: by the first of its names that has a range, else 0
abbrev pub start_of : Sections → List ℕ → List ℕ → ℕ
start_of s name other =
    unwrap_or (option_map (λ range. range.start) (option_or (s.section_range name) (s.section_range other))) 0

-- the starts of the sections that pointers are relative to
abbrev pub base_svmas : Sections → BaseSvmas
base_svmas s = record {
  eh_frame = start_of s (codes "__eh_frame") (codes ".eh_frame");
  eh_frame_hdr = start_of s (codes "__eh_frame_hdr") (codes ".eh_frame_hdr");
  text = start_of s (codes "__text") (codes ".text");
  got = start_of s (codes "__got") (codes ".got");
}
