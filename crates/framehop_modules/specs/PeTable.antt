-- The sections of a PE file that are given one by one, by their names.
use Rattle.std.specs.Prelude.{ℕ, ◌≡◌, List, Option, Some, None, option_and_then, option_map, codes, bytes_eq, if◌then◌else◌}
use Rattle.std.specs.declared.ops.Range.{Range}
use Rattle.framehop_modules.specs.Sections.{Sections}
use Rattle.framehop_modules.specs.declared.pe_section_info.PeModuleSectionInfo.{PeModuleSectionInfo}
use Rattle.framehop_modules.specs.declared.pe_section_info.PeSectionKind.{PeSectionKind}
use Rattle.framehop_modules.specs.declared.pe_section_info.PeSectionKind.TheVariants.{Pdata, Rdata, Xdata, Text}

-- the section of a name
abbrev pub pe_kind_named : List ℕ → Option PeSectionKind
pe_kind_named name =
    if bytes_eq name (codes ".pdata") then Some Pdata
    else (if bytes_eq name (codes ".rdata") then Some Rdata
    else (if bytes_eq name (codes ".xdata") then Some Xdata
    else (if bytes_eq name (codes ".text") then Some Text else None)))

-- the stated range of a section
abbrev pub pe_range_of : {D : Type 0} → PeModuleSectionInfo D → PeSectionKind → Option (Range ℕ)
pe_range_of info Pdata = None
pe_range_of info Rdata = info.rdata_svma
pe_range_of info Xdata = info.xdata_svma
pe_range_of info Text = info.text_svma

-- the data of a section, if it was not handed out yet
abbrev pub pe_data_of : {D : Type 0} → PeModuleSectionInfo D → PeSectionKind → Option D
pe_data_of info Pdata = info.pdata
pe_data_of info Rdata = info.rdata
pe_data_of info Xdata = info.xdata
pe_data_of info Text = info.text

-- the stated range of the section with a name
abbrev pub pe_range_named : {D : Type 0} → PeModuleSectionInfo D → List ℕ → Option (Range ℕ)
pe_range_named info name = option_and_then (pe_range_of info) (pe_kind_named name)

-- the data of the section with a name, if it was not handed out yet
abbrev pub pe_data_named : {D : Type 0} → PeModuleSectionInfo D → List ℕ → Option D
pe_data_named info name = option_and_then (pe_data_of info) (pe_kind_named name)

-- the data of the section with a name was handed out
abbrev pub IsPeGiven : {D : Type 0} → List ℕ → PeModuleSectionInfo D → Type 0
IsPeGiven name info = pe_data_named info name ≡ None

-- the sections of a PE file, given one by one
abbrev pub pe_sections_given : {D : Type 0} → (D → List ℕ) → PeModuleSectionInfo D → Sections
pe_sections_given content info = record {
  base_svma = info.base_svma;
  section_range = λ name. pe_range_named info name;
  section_data = λ name. option_map content (pe_data_named info name);
  segment_range = λ name. None;
  segment_data = λ name. None;
}
