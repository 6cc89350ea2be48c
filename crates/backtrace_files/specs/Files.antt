-- Mapped files of a process, and where their code is.
use Rattle.std.specs.Prelude.{ℕ, ◌+◌, ◌-◌, ◌^◌, ◌%◌, ◌==◌, ◌&&◌, Bool, nat_lt, nat_le, if◌then◌else◌, List, Option, Some, None, option_and_then}
use Rattle.std.specs.List.{filter_map}
use Rattle.std.specs.Option.{option_map, option_or}
use Rattle.std.specs.Result.{result_ok}
use Rattle.core_files.specs.FileViews.{mapped_range}
use Rattle.core_files.specs.MappedFiles.{FileMapping}
use Rattle.core_files.specs.Ranges.{KnownRange}
use Rattle.elf_files.specs.Header.{header_of}
use Rattle.elf_files.specs.declared.header.Header.{Header}
use Rattle.elf_files.specs.declared.segment.Segment.{Segment}
use Rattle.elf_segments.specs.Segments.{first_segment, is_load}

-- A mapping of a file, the bytes of the whole file, if they are there, and those of its debug file, if there is one.
pub record ProcessFile : Type 0 where
  pub mapping : FileMapping
  pub bytes : Option (List ℕ)
  pub debug : Option (List ℕ)

-- what a mapped file has of memory
abbrev pub range_of : ProcessFile → Option KnownRange
range_of file = option_map (mapped_range file.mapping) file.bytes

-- what mapped files have of memory, in their order
abbrev pub ranges_of : List ProcessFile → List KnownRange
ranges_of files = filter_map range_of files

-- A file whose code is mapped: its bytes, its header, and where the segment with the code begins, by its address in the file and in
-- memory.
pub record CodeOfFile : Type 0 where
  pub bytes : List ℕ
  pub header : Header
  pub base_svma : ℕ
  pub base_avma : ℕ

-- a segment has code: it is loaded, and may be executed (PF_X)
abbrev pub is_code : Segment → Bool
is_code segment = is_load segment.kind && ((segment.flags % 2) == 1)

-- a mapping has bytes of a segment with code: in the file, the segment begins before the mapping ends, and the mapping before the segment
-- ends
abbrev pub has_code_of : FileMapping → Segment → Bool
has_code_of mapping segment =
    is_code segment && nat_lt (segment.offset - mapping.offset) (mapping.end - mapping.start)
    && nat_lt (mapping.offset - segment.offset) segment.file_size

-- a mapping begins where the page of the file begins in which a segment with code does; a page has 4096 bytes
abbrev pub begins_with : FileMapping → Segment → Bool
begins_with mapping segment = has_code_of mapping segment && (segment.offset == mapping.offset + segment.offset % 4096)

-- the segment with code that a mapping begins with, or else the first of which it has bytes
abbrev pub code_segment : List ℕ → Header → FileMapping → Option Segment
code_segment bytes header mapping =
    option_or (first_segment (begins_with mapping) bytes header) (first_segment (has_code_of mapping) bytes header)

-- Where a segment begins in memory: what is at p_offset in the file is at start + (p_offset - offset). All sums are in 64 bits.
abbrev pub base_by : FileMapping → Segment → Option ℕ
base_by mapping segment =
    let memory = mapping.start + segment.offset in
    if nat_lt memory (2 ^ 64) && nat_le mapping.offset memory then Some (memory - mapping.offset) else None

-- the code of a mapping, of a file with these bytes and this header, in this segment
abbrev pub code_in : FileMapping → List ℕ → Header → Segment → Option CodeOfFile
code_in mapping bytes header segment =
    option_map (λ base. record { bytes = bytes; header = header; base_svma = segment.address; base_avma = base }) (base_by mapping segment)

-- the code of a mapping, of a file with these bytes and this header
abbrev pub code_of : FileMapping → List ℕ → Header → Option CodeOfFile
code_of mapping bytes header = option_and_then (code_in mapping bytes header) (code_segment bytes header mapping)

-- the code of a mapped file, if its bytes are there
abbrev pub loaded_code : ProcessFile → Option CodeOfFile
loaded_code file = option_and_then (λ bytes. option_and_then (code_of file.mapping bytes) (result_ok (header_of bytes))) file.bytes
