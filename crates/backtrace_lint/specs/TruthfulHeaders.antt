-- What is known of an `.eh_frame_hdr` for which no line is written.
use Rattle.std.specs.Prelude.{◌≡◌, ◌<◌, ℕ, List, Ok}
use Rattle.dwarf_frame_rows.specs.FrameSection.{FrameSection}
use Rattle.dwarf_frame_rows.specs.declared.base_addresses.BaseAddresses.{BaseAddresses}
use Rattle.dwarf_frame_rows.specs.declared.pointer.Pointer.TheVariants.{Direct}
use Rattle.dwarf_call_frames.specs.Header.{Header}
use Rattle.dwarf_call_frames.specs.Truthful.{IsTruthful}
use Rattle.frame_table_files.specs.FileSections.{FileSection}
use Rattle.backtrace_lint.specs.Headers.{HeaderSection, parsed_header, section_start, with_header}
use Rattle.backtrace_lint.specs.LintText.{frames_of, header_lines}
use Rattle.backtrace_lint.specs.ListedFdes.{listed_fdes}

-- a section of call frames and its header, of the file with this name
pub record HeadedSection : Type 0 where
  pub name : List ℕ
  pub section : FileSection
  pub header : HeaderSection

-- the section, as its entries are read
abbrev pub headed_frames : HeadedSection → FrameSection
headed_frames h = frames_of h.section

-- what pointers are relative to
abbrev pub headed_bases : HeadedSection → BaseAddresses
headed_bases h = with_header h.header.address h.section.bases

-- the lines of the header
abbrev pub headed_lines : HeadedSection → List ℕ
headed_lines h = header_lines h.name h.section h.header (listed_fdes (headed_frames h))

-- The header can be read, says where the section is, and is truthful.
pub record HasTruthfulHeader (h : HeadedSection) : Type 0 where
  pub says : Header
  pub parses : parsed_header (headed_bases h) h.header.bytes ≡ Ok says
  pub there : says.eh_frame_ptr ≡ Direct (section_start h.section.bases)
  pub truthful : IsTruthful (headed_frames h) (headed_bases h) says

-- .. and its table has a row
pub record HasTruthfulRows (h : HeadedSection) : Type 0 where
  pub header : HasTruthfulHeader h
  pub has_rows : 0 < header.says.count
