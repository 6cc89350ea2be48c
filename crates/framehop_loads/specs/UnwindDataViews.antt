-- The unwind data of a module as contracts see it.
use Rattle.std.specs.Prelude.{◌≡◌, ℕ, List, Option, option_map}
use Rattle.std.specs.declared.ops.Range.{Range}
use Rattle.dwarf_frame_rows.specs.declared.base_addresses.BaseAddresses.{BaseAddresses}
use Rattle.framehop_code_rules.specs.declared.CodeRules.{CodeRules}
use Rattle.framehop_compact.specs.CompactFiles.{CompactFile}
use Rattle.framehop_modules.specs.Chosen.{chosen_sections}
use Rattle.framehop_modules.specs.ChosenViews.{section_bytes, sections_bytes}
use Rattle.framehop_modules.specs.Sections.{Sections}
use Rattle.framehop_modules.specs.declared.module_sections.ModuleSections.{ModuleSections}
use Rattle.framehop_modules.specs.declared.module_sections.ModuleSections.TheVariants as sections
use Rattle.framehop_modules.specs.declared.module_sections.SectionData.{SectionData}
use Rattle.framehop_pe_codes.specs.Sections.{PeFile}
use Rattle.framehop_loads.specs.UnwindData as data_
use Rattle.framehop_loads.specs.declared.load_options.LoadOptions.{LoadOptions}
use Rattle.framehop_loads.specs.declared.unwind_data.ModuleFormat.{ModuleFormat}
use Rattle.framehop_loads.specs.declared.unwind_data.ModuleFormat.TheVariants as format

-- a section that is taken, by its bytes, if it is there
abbrev pub taken_bytes : {D : Type 0} → (D → List ℕ) → Option (SectionData D) → Option (SectionData (List ℕ))
taken_bytes content section = option_map (section_bytes content) section

-- the PE file of the sections that are taken
abbrev pub pe_file_taken : {D : Type 0} → (D → List ℕ) → CodeRules → (base : ℕ) → D → (rdata xdata text : Option (SectionData D)) → PeFile
pe_file_taken content code_rules base pdata rdata xdata text =
    data_.pe_file code_rules base (content pdata) (taken_bytes content rdata) (taken_bytes content xdata) (taken_bytes content text)

-- the Mach-O file of the sections that are taken
abbrev pub compact_taken : {D : Type 0} → (D → List ℕ) → CodeRules → (base : ℕ) → D → (stubs stub_helper : Option (Range ℕ))
    → Option (SectionData D) → CompactFile
compact_taken content code_rules base unwind_info stubs stub_helper text =
    data_.compact_file code_rules base (content unwind_info) stubs stub_helper (taken_bytes content text)

-- the format of a module, by the bytes of its sections
abbrev pub format_view : {D : Type 0} → (D → List ℕ) → ModuleFormat D → data_.ModuleFormat
format_view content (format.CallFrames frames) = data_.CallFrames frames
format_view content (format.Pe file) = data_.Pe file
format_view content (format.Compact file eh_frame) = data_.Compact file (option_map content eh_frame)
format_view content format.NoFormat = data_.NoFormat

-- Sections that were taken, and `.debug_frame`, if it is beside them, make the format of a module with these sections that is loaded so.
abbrev pub AreChosen : {D : Type 0} → (D → List ℕ) → LoadOptions → Sections → ModuleSections D → Option D → Type 0
AreChosen content options s taken debug_frame =
    (bases : BaseAddresses) (base : ℕ)
    → data_.format_with options bases base (option_map content debug_frame) (sections_bytes content taken)
    ≡ data_.format_with options bases base (data_.debug_frame_of options s) (chosen_sections s)

-- This holds, unless sections were taken that have the code with them.
abbrev pub UnlessWithTables : {D : Type 0} → ModuleSections D → Type 0 → Type 0
UnlessWithTables (sections.CompactUnwindInfoAndEhFrame unwind_info eh_frame stubs stub_helper text) P = Unit {0}
UnlessWithTables (sections.PeUnwindInfo pdata rdata xdata text) P = Unit {0}
UnlessWithTables (sections.EhFrame eh_frame eh_frame_hdr) P = P
UnlessWithTables (sections.DebugFrame debug_frame) P = P
UnlessWithTables sections.NoSections P = P
