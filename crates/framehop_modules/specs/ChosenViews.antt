-- The sections that are taken of a module, by the bytes of their data.
use Rattle.std.specs.Prelude.{◌≡◌, ℕ, List, codes, option_map}
use Rattle.framehop_modules.specs.Sections.{SectionLeft, Sections, bare_name}
use Rattle.framehop_modules.specs.declared.module_sections.ModuleSections.{ModuleSections}
use Rattle.framehop_modules.specs.declared.module_sections.ModuleSections.TheVariants.{CompactUnwindInfoAndEhFrame, PeUnwindInfo, EhFrame, DebugFrame, NoSections}
use Rattle.framehop_modules.specs.declared.module_sections.SectionData.{SectionData}

-- a section by its bytes
abbrev pub section_bytes : {D : Type 0} → (D → List ℕ) → SectionData D → SectionData (List ℕ)
section_bytes content section = record { bytes = content section.bytes; svma_range = section.svma_range }

-- the sections that were taken, by their bytes
abbrev pub sections_bytes : {D : Type 0} → (D → List ℕ) → ModuleSections D → ModuleSections (List ℕ)
sections_bytes content (CompactUnwindInfoAndEhFrame unwind_info eh_frame stubs stub_helper text) =
    CompactUnwindInfoAndEhFrame (content unwind_info) (option_map content eh_frame) stubs stub_helper (option_map (section_bytes content) text)
sections_bytes content (PeUnwindInfo pdata rdata xdata text) =
    PeUnwindInfo (content pdata) (option_map (section_bytes content) rdata) (option_map (section_bytes content) xdata)
    (option_map (section_bytes content) text)
sections_bytes content (EhFrame eh_frame eh_frame_hdr) = EhFrame (content eh_frame) (option_map content eh_frame_hdr)
sections_bytes content (DebugFrame debug_frame) = DebugFrame (content debug_frame)
sections_bytes content NoSections = NoSections

-- Sections that were taken with data which was handed out before under this name: they are what was there then says by that data.
abbrev pub IsTakenWith : {D : Type 0} → (D → List ℕ) → (name : List ℕ) → (left : Sections) → ModuleSections D → D
    → (Sections → List ℕ → ModuleSections (List ℕ)) → Type 0
IsTakenWith content name left taken given sections_with =
    (before : Sections) → SectionLeft name before left → sections_bytes content taken ≡ sections_with before (content given)

-- What is left after data was handed out under either of two names, if these are of one section.
abbrev pub LeftUnderEither : (name other : List ℕ) → (old new : Sections) → Type 0
LeftUnderEither name other old new = bare_name other ≡ bare_name name → SectionLeft name old new

-- The text is as it was: the ranges, and the data of `.text` and of `__text`.
pub record TextLeft (old new : Sections) : Type 0 where
  pub base_svma : new.base_svma ≡ old.base_svma
  pub section_range : new.section_range ≡ old.section_range
  pub elf_text : new.section_data (codes ".text") ≡ old.section_data (codes ".text")
  pub macho_text : new.section_data (codes "__text") ≡ old.section_data (codes "__text")

-- Sections that were taken have left the text, unless it goes with them.
abbrev pub LeavesText : {D : Type 0} → ModuleSections D → (old new : Sections) → Type 0
LeavesText (CompactUnwindInfoAndEhFrame unwind_info eh_frame stubs stub_helper text) old new = Unit {0}
LeavesText (PeUnwindInfo pdata rdata xdata text) old new = Unit {0}
LeavesText (EhFrame eh_frame eh_frame_hdr) old new = TextLeft old new
LeavesText (DebugFrame debug_frame) old new = TextLeft old new
LeavesText NoSections old new = TextLeft old new
