-- Segments (System V gABI, "Program Header": Elf64_Phdr; for PT_GNU_EH_FRAME the LSB, "Program Header").
use Rattle.std.specs.Prelude.{ℕ, ◌+◌, ◌*◌, ◌==◌, Bool, true, false, if◌then◌else◌, List, Ok}
use Rattle.elf_files.specs.declared.error.ElfError.TheVariants.{Truncated}
use Rattle.elf_files.specs.declared.header.Header.{Header}
use Rattle.elf_files.specs.declared.segment.Segment.{Segment}
use Rattle.elf_files.specs.declared.segment.SegmentKind.{SegmentKind}
use Rattle.elf_files.specs.declared.segment.SegmentKind.TheVariants.{Null, Load, Dynamic, Interpreter, Note, EhFrameHeader, Other}
use Rattle.elf_files.specs.Bytes.{ElfResult, unless, number_at, is_within, bytes_at}
use Rattle.elf_files.specs.Tables.{entries}

-- What a segment is, by p_type.
abbrev pub segment_kind : ℕ → SegmentKind
segment_kind number =
    if number == 0 then Null else
    if number == 1 then Load else
    if number == 2 then Dynamic else
    if number == 3 then Interpreter else
    if number == 4 then Note else
    if number == 0x6474e550 then EhFrameHeader else
    Other number

-- The segment of the program header at an offset.
abbrev pub segment_from : List ℕ → ℕ → Segment
segment_from bytes at = record {
  kind = segment_kind (number_at 4 bytes at);
  flags = number_at 4 bytes (at + 4);
  offset = number_at 8 bytes (at + 8);
  address = number_at 8 bytes (at + 16);
  file_size = number_at 8 bytes (at + 32);
  memory_size = number_at 8 bytes (at + 40);
  alignment = number_at 8 bytes (at + 48);
}

-- The segment with an index.
abbrev pub segment_of : List ℕ → Header → ℕ → Segment
segment_of bytes header index = segment_from bytes (header.segment_table + 56 * index)

-- Where the table of segments ends.
abbrev pub segment_table_end : Header → ℕ
segment_table_end header = header.segment_table + 56 * header.segment_count

-- What comes next if the table of segments is whole.
abbrev pub if_segments : {A : Type 0} → List ℕ → Header → ElfResult A → ElfResult A
if_segments bytes header next = unless (is_within bytes header.segment_table (56 * header.segment_count)) (Truncated header.segment_table) next

-- The segment with an index, if the table is whole.
abbrev pub segment_at : List ℕ → Header → ℕ → ElfResult Segment
segment_at bytes header index = if_segments bytes header (Ok (segment_of bytes header index))

-- All segments.
abbrev pub all_segments : List ℕ → Header → List Segment
all_segments bytes header = entries (segment_of bytes header) 0 header.segment_count

-- A segment has notes (PT_NOTE).
abbrev pub is_note_segment : SegmentKind → Bool
is_note_segment Note = true
is_note_segment _ = false

-- The bytes of a segment: p_filesz of them from p_offset on.
abbrev pub segment_bytes : List ℕ → Segment → ElfResult (List ℕ)
segment_bytes bytes segment = bytes_at bytes segment.offset segment.file_size
