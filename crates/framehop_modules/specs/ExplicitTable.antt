-- The sections of a module that are given one by one, by their names.
use Rattle.std.specs.Prelude.{ℕ, ◌≡◌, List, Option, Some, None, option_and_then, option_map, codes, bytes_eq, Bool, ◌||◌, if◌then◌else◌}
use Rattle.std.specs.declared.ops.Range.{Range}
use Rattle.framehop_modules.specs.Sections.{Sections}
use Rattle.framehop_modules.specs.declared.module_section_info.ExplicitModuleSectionInfo.{ExplicitModuleSectionInfo}
use Rattle.framehop_modules.specs.declared.module_section_info.SectionKind.{SectionKind}
use Rattle.framehop_modules.specs.declared.module_section_info.SectionKind.TheVariants.{Text, Got, EhFrame, EhFrameHdr, DebugFrame, Stubs, StubHelper, UnwindInfo}

-- a name is one of two
abbrev pub is_either : List ℕ → List ℕ → List ℕ → Bool
is_either name one other = bytes_eq name one || bytes_eq name other

-- the section of a name
abbrev pub kind_named : List ℕ → Option SectionKind
kind_named name =
    if is_either name (codes "__text") (codes ".text") then Some Text
    else (if is_either name (codes "__got") (codes ".got") then Some Got
    else (if is_either name (codes "__eh_frame") (codes ".eh_frame") then Some EhFrame
    else (if is_either name (codes "__eh_frame_hdr") (codes ".eh_frame_hdr") then Some EhFrameHdr
    else (if is_either name (codes "__debug_frame") (codes ".debug_frame") then Some DebugFrame
    else (if bytes_eq name (codes "__stubs") then Some Stubs
    else (if bytes_eq name (codes "__stub_helper") then Some StubHelper
    else (if bytes_eq name (codes "__unwind_info") then Some UnwindInfo else None)))))))

-- the stated range of a section
abbrev pub range_of : {D : Type 0} → ExplicitModuleSectionInfo D → SectionKind → Option (Range ℕ)
range_of info Text = info.text_svma
range_of info Got = info.got_svma
range_of info EhFrame = info.eh_frame_svma
range_of info EhFrameHdr = info.eh_frame_hdr_svma
range_of info DebugFrame = None
range_of info Stubs = info.stubs_svma
range_of info StubHelper = info.stub_helper_svma
range_of info UnwindInfo = None

-- the data of a section, if it was not handed out yet
abbrev pub data_of : {D : Type 0} → ExplicitModuleSectionInfo D → SectionKind → Option D
data_of info Text = info.text
data_of info Got = None
data_of info EhFrame = info.eh_frame
data_of info EhFrameHdr = info.eh_frame_hdr
data_of info DebugFrame = info.debug_frame
data_of info Stubs = None
data_of info StubHelper = None
data_of info UnwindInfo = info.unwind_info

-- the stated range of the section with a name
abbrev pub range_named : {D : Type 0} → ExplicitModuleSectionInfo D → List ℕ → Option (Range ℕ)
range_named info name = option_and_then (range_of info) (kind_named name)

-- the data of the section with a name, if it was not handed out yet
abbrev pub data_named : {D : Type 0} → ExplicitModuleSectionInfo D → List ℕ → Option D
data_named info name = option_and_then (data_of info) (kind_named name)

-- the data of the section with a name was handed out: no name of the section has data any more
abbrev pub IsGiven : {D : Type 0} → List ℕ → ExplicitModuleSectionInfo D → Type 0
IsGiven name info = (other : List ℕ) → kind_named other ≡ kind_named name → data_named info other ≡ None

-- the only segment that is asked for
abbrev pub text_segment : List ℕ
text_segment = codes "__TEXT"

-- the sections of a module, given one by one
abbrev pub sections_given : {D : Type 0} → (D → List ℕ) → ExplicitModuleSectionInfo D → Sections
sections_given content info = record {
  base_svma = info.base_svma;
  section_range = λ name. range_named info name;
  section_data = λ name. option_map content (data_named info name);
  segment_range = λ name. if bytes_eq name text_segment then info.text_segment_svma else None;
  segment_data = λ name. if bytes_eq name text_segment then option_map content info.text_segment else None;
}
