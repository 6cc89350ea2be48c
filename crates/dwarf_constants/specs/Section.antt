-- Sections of debugging information, by name.
use Rattle.std.specs.Prelude.{ℕ, List, [], ◌∷◌, ◌++◌, codes, Option, Some, None}
use Rattle.dwarf_constants.specs.declared.common.SectionId.{SectionId}
use Rattle.dwarf_constants.specs.declared.common.SectionId.TheVariants.{DebugAbbrev, DebugAddr, DebugAranges, DebugCuIndex, DebugFrame, DebugGnuPubNames, DebugGnuPubTypes, DebugInfo, DebugLine, DebugLineStr, DebugLoc, DebugLocLists, DebugMacinfo, DebugMacro, DebugNames, DebugPubNames, DebugPubTypes, DebugRanges, DebugRngLists, DebugStr, DebugStrOffsets, DebugTuIndex, DebugTypes, EhFrame, EhFrameHdr}

-- names in an ELF file (DWARF 5, 6.1 and 7.3; LSB 5.0, 10.6)
abbrev pub section_name : SectionId → List ℕ
section_name DebugAbbrev = codes ".debug_abbrev"
section_name DebugAddr = codes ".debug_addr"
section_name DebugAranges = codes ".debug_aranges"
section_name DebugCuIndex = codes ".debug_cu_index"
section_name DebugFrame = codes ".debug_frame"
section_name EhFrame = codes ".eh_frame"
section_name EhFrameHdr = codes ".eh_frame_hdr"
section_name DebugGnuPubNames = codes ".debug_gnu_pubnames"
section_name DebugGnuPubTypes = codes ".debug_gnu_pubtypes"
section_name DebugInfo = codes ".debug_info"
section_name DebugLine = codes ".debug_line"
section_name DebugLineStr = codes ".debug_line_str"
section_name DebugLoc = codes ".debug_loc"
section_name DebugLocLists = codes ".debug_loclists"
section_name DebugMacinfo = codes ".debug_macinfo"
section_name DebugMacro = codes ".debug_macro"
section_name DebugNames = codes ".debug_names"
section_name DebugPubNames = codes ".debug_pubnames"
section_name DebugPubTypes = codes ".debug_pubtypes"
section_name DebugRanges = codes ".debug_ranges"
section_name DebugRngLists = codes ".debug_rnglists"
section_name DebugStr = codes ".debug_str"
section_name DebugStrOffsets = codes ".debug_str_offsets"
section_name DebugTuIndex = codes ".debug_tu_index"
section_name DebugTypes = codes ".debug_types"

-- the name with the suffix of split files
abbrev pub with_dwo : SectionId → Option (List ℕ)
with_dwo section = Some (section_name section ++ codes ".dwo")

-- names in split files, and of the two indexes of a package of them (DWARF 5, 7.3.2 and 7.3.5)
abbrev pub dwo_section_name : SectionId → Option (List ℕ)
dwo_section_name DebugAbbrev = with_dwo DebugAbbrev
dwo_section_name DebugInfo = with_dwo DebugInfo
dwo_section_name DebugLine = with_dwo DebugLine
dwo_section_name DebugLoc = with_dwo DebugLoc
dwo_section_name DebugLocLists = with_dwo DebugLocLists
dwo_section_name DebugMacinfo = with_dwo DebugMacinfo
dwo_section_name DebugMacro = with_dwo DebugMacro
dwo_section_name DebugRngLists = with_dwo DebugRngLists
dwo_section_name DebugStr = with_dwo DebugStr
dwo_section_name DebugStrOffsets = with_dwo DebugStrOffsets
dwo_section_name DebugTypes = with_dwo DebugTypes
dwo_section_name DebugCuIndex = Some (section_name DebugCuIndex)
dwo_section_name DebugTuIndex = Some (section_name DebugTuIndex)
dwo_section_name _ = None

-- the sections of strings
abbrev pub string_sections : List SectionId
string_sections = DebugStr ∷ DebugLineStr ∷ []
