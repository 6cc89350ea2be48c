-- The unwind data of a module: its format, and the addresses that its numbers are relative to.
use Rattle.std.specs.Prelude.{ℕ, ◌-◌, ◌^◌, ◌&&◌, Bool, true, false, codes, nat_le, nat_lt, if◌then◌else◌, List, Option, Some, None, IfSome, option_and_then, option_map}
use Rattle.std.specs.declared.ops.Range.{Range}
use Rattle.dwarf_frame_rows.specs.declared.base_addresses.BaseAddresses.{BaseAddresses}
use Rattle.framehop_modules.specs.Sections.{Sections}
use Rattle.framehop_modules.specs.Chosen.{chosen_sections, base_svmas, text_section}
use Rattle.framehop_modules.specs.declared.module_sections.BaseSvmas.{BaseSvmas}
use Rattle.framehop_modules.specs.declared.module_sections.ModuleSections.{ModuleSections}
use Rattle.framehop_modules.specs.declared.module_sections.ModuleSections.TheVariants.{CompactUnwindInfoAndEhFrame, PeUnwindInfo, EhFrame, DebugFrame, NoSections}
use Rattle.framehop_modules.specs.declared.module_sections.SectionData.{SectionData}
use Rattle.framehop_code.specs.Places.{CodeBytes}
use Rattle.framehop_code_rules.specs.declared.CodeRules.{CodeRules}
use Rattle.framehop_code_rules.specs.declared.CodeRules.TheVariants as rules
use Rattle.framehop_loads.specs.declared.load_options.Rows.{Rows}
use Rattle.framehop_compact.specs.CompactFiles.{Code, CompactFile}
use Rattle.framehop_pe_codes.specs.Sections.{PeFile, PeSection}
use Rattle.framehop_index.specs.FdeLookups.{Lookup, ByHeader, PlacedFrames, placed}
use Rattle.framehop_index.specs.declared.section_type.UnwindSectionType.{UnwindSectionType}
use Rattle.framehop_index.specs.declared.section_type.UnwindSectionType.TheVariants as section
use Rattle.framehop_loads.specs.CallFrames as frames
use Rattle.framehop_loads.specs.LoadOptions.{as_original, by_scan, lookup_with, table_on, with_both}
use Rattle.framehop_loads.specs.declared.load_options.LoadOptions.{LoadOptions}

-- What a module is unwound by: its call frames; the unwind data of a PE file; the compact unwind info of a Mach-O file, with the bytes of
-- `__eh_frame` if there are some; or nothing.
pub data ModuleFormat : Type 0 where
  CallFrames : frames.CallFrames → ModuleFormat
  Pe : PeFile → ModuleFormat
  Compact : CompactFile → (eh_frame : Option (List ℕ)) → ModuleFormat
  NoFormat : ModuleFormat

-- The unwind data of a module: its format, the addresses that pointers in its sections are relative to, the module's base as the file
-- states it, its code at addresses relative to the base, if first frames go by ways out of functions, and what its rows are taken to say.
pub record UnwindData : Type 0 where
  pub format : ModuleFormat
  pub bases : BaseAddresses
  pub base_svma : ℕ
  pub code : Option CodeBytes
  pub rows : Rows

-- the addresses that pointers are relative to, by the starts of sections: in `.eh_frame_hdr`, `DW_EH_PE_datarel` is relative to that
-- section itself, in the others to the global offset table
abbrev pub bases_of : BaseSvmas → BaseAddresses
bases_of starts = record {
  eh_frame_hdr = record { section = Some starts.eh_frame_hdr; text = Some starts.text; data_base = Some starts.eh_frame_hdr };
  eh_frame = record { section = Some starts.eh_frame; text = Some starts.text; data_base = Some starts.got };
}

-- an address relative to a base, if it isn't below the base and fits 32 bits from there
abbrev pub relative_address : (base svma : ℕ) → Option ℕ
relative_address base svma = if nat_le base svma && nat_lt (svma - base) (2 ^ 32) then Some (svma - base) else None

-- a range of such addresses
abbrev pub relative_range : (base : ℕ) → Range ℕ → Option (Range ℕ)
relative_range base range =
    option_and_then (λ start. option_map (λ end. record { start = start; end = end }) (relative_address base range.end)) (relative_address base range.start)

-- a section of a PE file, if it has such a range
abbrev pub pe_section : (base : ℕ) → SectionData (List ℕ) → Option PeSection
pe_section base section = option_map (λ range. record { bytes = section.bytes; rva_range = range }) (relative_range base section.svma_range)

-- a PE file, by its sections and the rules by which its code is read
abbrev pub pe_file : CodeRules → (base : ℕ) → List ℕ → (rdata xdata text : Option (SectionData (List ℕ))) → PeFile
pe_file code_rules base pdata rdata xdata text = record {
  pdata = pdata;
  rdata = option_and_then (pe_section base) rdata;
  xdata = option_and_then (pe_section base) xdata;
  text = option_and_then (pe_section base) text;
  code_rules = code_rules;
}

-- the addresses of stubs as a pair, which is empty if there are none
abbrev pub pair_of : Option (Range ℕ) → ℕ × ℕ
pair_of (Some range) = (range.start, range.end)
pair_of None = (0, 0)

-- the range of a section of stubs, if it has such a range
abbrev pub stub_range : (base : ℕ) → Option (Range ℕ) → ℕ × ℕ
stub_range base range = pair_of (option_and_then (relative_range base) range)

-- the code of a section, if it starts at such an address
abbrev pub code_in : (base : ℕ) → SectionData (List ℕ) → Option Code
code_in base section = option_map (λ start. record { start = start; bytes = section.bytes }) (relative_address base section.svma_range.start)

-- a Mach-O file with compact unwind info, by its sections and the rules by which its code is read
abbrev pub compact_file : CodeRules → (base : ℕ) → List ℕ → (stubs stub_helper : Option (Range ℕ)) → (text : Option (SectionData (List ℕ)))
    → CompactFile
compact_file code_rules base unwind_info stubs stub_helper text = record {
  unwind_info = unwind_info;
  text = option_and_then (code_in base) text;
  stubs = stub_range base stubs;
  stub_helper = stub_range base stub_helper;
  code_rules = code_rules;
}

-- a section of call frames with what is asked for its FDEs, and its header, if there is one
abbrev pub frames_with : LoadOptions → BaseAddresses → (base : ℕ) → UnwindSectionType (List ℕ) → (header : Option (List ℕ)) → PlacedFrames
frames_with options bases base section header = placed section (lookup_with options header) bases base

-- `.debug_frame`, which has no header
abbrev pub debug_frames : LoadOptions → BaseAddresses → (base : ℕ) → List ℕ → PlacedFrames
debug_frames options bases base bytes = frames_with options bases base (section.DebugFrame bytes) None

-- a section with its table, if one is asked for, and another one beside it
abbrev pub call_frames : LoadOptions → (main : PlacedFrames) → (beside : Option PlacedFrames) → ModuleFormat
call_frames options main beside = CallFrames (record { main = main; table = table_on options.tables main; beside = beside })

-- the format of a module with these sections, and with `.debug_frame` beside `.eh_frame`, if it is given, by the addresses that pointers are
-- relative to and the module's base as the file states it
abbrev pub format_with : LoadOptions → BaseAddresses → (base : ℕ) → (debug_frame : Option (List ℕ)) → ModuleSections (List ℕ) → ModuleFormat
format_with options bases base debug_frame (CompactUnwindInfoAndEhFrame unwind_info eh_frame stubs stub_helper text) =
    Compact (compact_file options.code_rules base unwind_info stubs stub_helper text) eh_frame
format_with options bases base debug_frame (PeUnwindInfo pdata rdata xdata text) =
    Pe (pe_file options.code_rules base pdata rdata xdata text)
format_with options bases base debug_frame (EhFrame bytes header) =
    call_frames options (frames_with options bases base (section.EhFrame bytes) header) (option_map (debug_frames options bases base) debug_frame)
format_with options bases base debug_frame (DebugFrame bytes) = call_frames options (debug_frames options bases base bytes) None
format_with options bases base debug_frame NoSections = NoFormat

-- `.debug_frame`, if it is asked for and there
abbrev pub debug_frame_of : LoadOptions → Sections → Option (List ℕ)
debug_frame_of options s = if options.debug_frame_beside then s.section_data (codes ".debug_frame") else None

-- first frames go by ways out of functions
abbrev pub goes_by_ways : CodeRules → Bool
goes_by_ways rules.Published = false
goes_by_ways rules.Known = false
goes_by_ways rules.Ways = true

-- code as bytes at addresses
abbrev pub bytes_of_code : Code → CodeBytes
bytes_of_code code = record { begin = code.start; bytes = code.bytes }

abbrev pub bytes_of_section : PeSection → CodeBytes
bytes_of_section section = record { begin = section.rva_range.start; bytes = section.bytes }

-- the section of code, if it starts at an address that is relative to the base
abbrev pub text_of : (base : ℕ) → Sections → Option Code
text_of base s = option_and_then (code_in base) (text_section s)

-- the code of a module: that which its tables have with them, or else the section of code
abbrev pub code_with : ModuleFormat → (text : Option Code) → Option CodeBytes
code_with (CallFrames frames) text = option_map bytes_of_code text
code_with (Pe file) text = option_map bytes_of_section file.text
code_with (Compact file eh_frame) text = option_map bytes_of_code file.text
code_with NoFormat text = option_map bytes_of_code text

-- .. if first frames go by it
abbrev pub code_by : CodeRules → ModuleFormat → (text : Option Code) → Option CodeBytes
code_by code_rules format text = if goes_by_ways code_rules then code_with format text else None

-- the format of a module with these sections, as its load asks for them
abbrev pub format_of : LoadOptions → Sections → ModuleFormat
format_of options s = format_with options (bases_of (base_svmas s)) s.base_svma (debug_frame_of options s) (chosen_sections s)

-- the unwind data of a module with these sections, as its load asks for them
abbrev pub unwind_data_with : LoadOptions → Sections → UnwindData
unwind_data_with options s = record {
  format = format_of options s;
  bases = bases_of (base_svmas s);
  base_svma = s.base_svma;
  code = code_by options.code_rules (format_of options s) (text_of s.base_svma s);
  rows = options.rows;
}

-- the unwind data as the original takes them
abbrev pub unwind_data_of : Sections → UnwindData
unwind_data_of s = unwind_data_with as_original s

-- .. if the section of call frames is read at each step
abbrev pub scanned_data_of : Sections → UnwindData
scanned_data_of s = unwind_data_with by_scan s

-- .. if the module is unwound by `.debug_frame` too, where it has that section beside `.eh_frame`
abbrev pub both_data_of : Sections → UnwindData
both_data_of s = unwind_data_with with_both s

-- FDEs of a section are found by a header in `.eh_frame` alone.
abbrev pub IsHeaderOfEhFrame : UnwindSectionType (List ℕ) → Lookup → Type 0
IsHeaderOfEhFrame (section.DebugFrame bytes) (ByHeader header) = ⊥
IsHeaderOfEhFrame section lookup = Unit {0}

-- And so they are in a module's format.
abbrev pub HasHeaderOfEhFrame : ModuleFormat → Type 0
HasHeaderOfEhFrame (CallFrames frames) =
    IsHeaderOfEhFrame frames.main.section frames.main.lookup
    × IfSome frames.beside (λ beside. IsHeaderOfEhFrame beside.section beside.lookup)
HasHeaderOfEhFrame others = Unit {0}
