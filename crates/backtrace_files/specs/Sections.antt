-- The sections of an ELF file, as an unwinder takes them.
use Rattle.std.specs.Prelude.{ℕ, ◌+◌, ◌-◌, ◌^◌, ◌||◌, Bool, min, bytes_eq, codes, if◌then◌else◌, List, Option, None, option_and_then}
use Rattle.std.specs.Option.{option_map}
use Rattle.std.specs.Result.{result_ok}
use Rattle.std.specs.declared.ops.Range.{Range}
use Rattle.elf_files.specs.Sections.{section_bytes, section_named}
use Rattle.elf_files.specs.declared.header.Header.{Header}
use Rattle.elf_files.specs.declared.section.Section.{Section}
use Rattle.elf_segments.specs.Segments.{has_named_sections}
use Rattle.framehop_modules.specs.Sections.{Sections}
use Rattle.backtrace_files.specs.SegmentSections.{data_by_segments, range_by_segments}

-- a section has call frames, or the table of their entries (LSB, "Special Sections"; DWARF 5, 6.4)
abbrev pub is_call_frames : List ℕ → Bool
is_call_frames name =
    bytes_eq name (codes ".eh_frame") || bytes_eq name (codes ".eh_frame_hdr") || bytes_eq name (codes ".debug_frame")

-- the first section of this name, if it can be read
abbrev pub readable_section : List ℕ → Header → List ℕ → Option Section
readable_section bytes header name = option_and_then (λ section. section) (result_ok (section_named bytes header name))

-- the addresses of a section, which end in 64 bits
abbrev pub range_of_section : Section → Range ℕ
range_of_section section = record { start = section.address; end = min (section.address + section.size) (2 ^ 64 - 1) }

-- the addresses of the first section of this name
abbrev pub range_named : List ℕ → Header → List ℕ → Option (Range ℕ)
range_named bytes header name = option_map range_of_section (readable_section bytes header name)

-- the bytes of the first section of this name, if it has call frames
abbrev pub data_named : List ℕ → Header → List ℕ → Option (List ℕ)
data_named bytes header name =
    if is_call_frames name
    then option_and_then (λ section. result_ok (section_bytes bytes section)) (readable_section bytes header name) else None

-- the addresses of a section, by its name, or if names of sections can't be read, by the segments
abbrev pub range_of : List ℕ → Header → List ℕ → Option (Range ℕ)
range_of bytes header name =
    if has_named_sections bytes header then range_named bytes header name else range_by_segments bytes header name

-- the bytes of a section with call frames, likewise
abbrev pub data_of : List ℕ → Header → List ℕ → Option (List ℕ)
data_of bytes header name =
    if has_named_sections bytes header then data_named bytes header name else data_by_segments bytes header name

-- the sections of a file by their names, whose addresses are the file's, with the one that relative addresses count from
abbrev pub sections_of : List ℕ → Header → ℕ → Sections
sections_of bytes header base = record {
  base_svma = base;
  section_range = λ name. range_of bytes header name;
  section_data = λ name. data_of bytes header name;
  segment_range = λ name. None;
  segment_data = λ name. None;
}
