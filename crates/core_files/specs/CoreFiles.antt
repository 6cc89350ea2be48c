-- Core files (System V gABI, "ELF Header", ET_CORE; "Program Header"): loaded segments, and notes.
use Rattle.std.specs.Prelude.{◌≡◌, ℕ, zero, suc, ◌+◌, ◌-◌, ◌%◌, ◌^◌, ◌<◌, ◌≤◌, ◌==◌, nat_le, nat_lt, Bool, true, false, if◌then◌else◌, List, [], ◌∷◌, ◌++◌, length, drop, take, slice_get, Some, None, Result, Ok, Err}
use Rattle.elf_files.specs.Bytes.{ElfResult, unless}
use Rattle.elf_files.specs.Header.{header_of}
use Rattle.elf_files.specs.Notes.{NoteParts, notes_with}
use Rattle.elf_files.specs.Segments.{is_note_segment, segment_at, segment_bytes}
use Rattle.elf_files.specs.declared.error.ElfError.TheVariants.{Truncated}
use Rattle.elf_files.specs.declared.header.FileKind.TheVariants.{Core}
use Rattle.elf_files.specs.declared.header.Header.{Header}
use Rattle.elf_files.specs.declared.header.Machine.{Machine}
use Rattle.elf_files.specs.declared.segment.Segment.{Segment}
use Rattle.elf_files.specs.declared.segment.SegmentKind.{SegmentKind}
use Rattle.elf_files.specs.declared.segment.SegmentKind.TheVariants.{Load}
use Rattle.core_files.specs.declared.error.CoreError.TheVariants.{NotCore}
use Rattle.core_files.specs.declared.thread.Thread.{Thread}
use Rattle.core_files.specs.MappedFiles.{FileMapping}
use Rattle.core_files.specs.Notes.{auxv_of, files_of, prpsinfo_of, siginfo_of, threads_of}
use Rattle.core_files.specs.Ranges.{KnownRange, after_zeros, any_loses}
use Rattle.core_files.specs.Refusals.{CoreResult, result_and_then, then_more, one, by_elf}

-- All values, or the first error.
unfoldable pub all_ok : {A E : Type 0} → List (Result A E) → Result (List A) E
all_ok [] = Ok []
all_ok (value ∷ others) = then_more (one value) (all_ok others)

-- The lists that a function gives for so many numbers, from one on, one after the other; or the first error.
unfoldable pub gather : {A E : Type 0} → (ℕ → Result (List A) E) → ℕ → ℕ → Result (List A) E
gather give first zero = Ok []
gather give first (suc count) = then_more (give first) (gather give (first + 1) count)

-- What gives the bytes of a segment with a number.
abbrev pub SegmentReader : Type 0
SegmentReader = ℕ → Segment → ElfResult (List ℕ)

-- The bytes that a file has of a segment: of a file that was cut off, fewer than the program header says.
abbrev pub bytes_left : List ℕ → Segment → List ℕ
bytes_left bytes segment = take segment.file_size (drop segment.offset bytes)

-- What is in a segment may be executed (PF_X, the lowest bit of p_flags).
abbrev pub may_be_executed : ℕ → Bool
may_be_executed flags = (flags % 2) == 1

-- What a loaded segment with these bytes has in memory.
abbrev pub loaded_range : Segment → List ℕ → KnownRange
loaded_range segment found = record {
  address = segment.address;
  size = segment.memory_size;
  bytes = found;
  lost = segment.file_size - length found;
  executable = may_be_executed segment.flags;
}

-- A segment is loaded (PT_LOAD).
abbrev pub is_loaded : SegmentKind → Bool
is_loaded Load = true
is_loaded _ = false

-- What a loaded segment has in memory, by what gives its bytes.
abbrev pub loaded_in : (Segment → ElfResult (List ℕ)) → Segment → ElfResult (List KnownRange)
loaded_in read segment =
    if is_loaded segment.kind then result_and_then (read segment) (λ found. Ok (loaded_range segment found ∷ [])) else Ok []

-- The notes of a segment of notes, by its bytes.
abbrev pub notes_in : (Segment → ElfResult (List ℕ)) → Segment → ElfResult (List NoteParts)
notes_in read segment =
    if is_note_segment segment.kind then result_and_then (read segment) (λ found. all_ok (notes_with found segment)) else Ok []

-- What the segment with an index has.
abbrev pub in_segment : {A : Type 0} → (Segment → ElfResult (List A)) → List ℕ → Header → ℕ → ElfResult (List A)
in_segment part bytes header index = result_and_then (segment_at bytes header index) part

-- The ranges of all loaded segments, in the order of their program headers.
abbrev pub loaded_ranges : SegmentReader → List ℕ → Header → ElfResult (List KnownRange)
loaded_ranges read bytes header = gather (λ index. in_segment (loaded_in (read index)) bytes header index) 0 header.segment_count

-- The notes of all segments of notes, in the same order.
abbrev pub core_notes : SegmentReader → List ℕ → Header → ElfResult (List NoteParts)
core_notes read bytes header = gather (λ index. in_segment (notes_in (read index)) bytes header index) 0 header.segment_count

-- What a core says of its process.
pub record CoreContents : Type 0 where
  pub machine : Machine
  pub segments : List KnownRange
  pub threads : List Thread
  pub files : List FileMapping
  pub auxv : List ℕ
  pub siginfo : List ℕ
  pub prpsinfo : List ℕ

-- What a core says of its process, by these parts and its notes.
abbrev pub contents_with : Machine → List KnownRange → List NoteParts → List Thread → List FileMapping → CoreContents
contents_with machine segments notes threads files = record {
  machine = machine;
  segments = segments;
  threads = threads;
  files = files;
  auxv = auxv_of notes;
  siginfo = siginfo_of notes;
  prpsinfo = prpsinfo_of notes;
}

-- The header of a core.
abbrev pub core_header : List ℕ → CoreResult Header
core_header bytes = result_and_then (by_elf (header_of bytes)) (λ header. elim header.kind [ Core ↦ Ok header | _ ↦ Err NotCore ])

-- What a file says, if it is a core, or the first refusal: of the header, the segments, the notes, the threads, and the mapped files.
-- Its header and program headers are in these bytes; what gives those of loaded segments and of notes is said.
unfoldable pub core_by : SegmentReader → SegmentReader → List ℕ → CoreResult CoreContents
core_by loaded noted bytes =
    result_and_then (core_header bytes) (λ header.
    result_and_then (by_elf (loaded_ranges loaded bytes header)) (λ segments.
    result_and_then (by_elf (core_notes noted bytes header)) (λ notes.
    result_and_then (threads_of header.machine 0 notes) (λ threads.
    result_and_then (files_of 0 notes) (λ files.
    Ok (contents_with header.machine segments notes threads files))))))

-- The same of a file, of which the end of the loaded segments may be missing.
abbrev pub core_of : List ℕ → CoreResult CoreContents
core_of bytes = core_by (λ index segment. Ok (bytes_left bytes segment)) (λ index. segment_bytes bytes) bytes

-- A core was cut off: some bytes of its loaded segments were lost.
abbrev pub is_cut_off : CoreContents → Bool
is_cut_off core = any_loses core.segments

-- ---- a file that is read in parts: its program headers, and the bytes of each segment

-- The bytes of a segment: so many zeros, and others.
pub record KnownPart : Type 0 where
  pub zeros : ℕ
  pub bytes : List ℕ

-- All of them.
abbrev pub part_bytes : KnownPart → List ℕ
part_bytes part = after_zeros part.zeros part.bytes

-- A part has bytes of a segment: no more than its program header says.
abbrev pub IsPartOf : KnownPart → Segment → Type 0
IsPartOf part segment = (segment.offset + segment.file_size < 2 ^ 64) × (length (part_bytes part) ≤ segment.file_size)

-- What comes next if that is so.
abbrev pub if_part : {A : Type 0} → KnownPart → Segment → ElfResult A → ElfResult A
if_part part segment next =
    unless (nat_lt (segment.offset + segment.file_size) (2 ^ 64)) (Truncated segment.offset) (
    unless (nat_le (length (part_bytes part)) segment.file_size) (Truncated segment.offset) next)

-- The bytes of the loaded segment with a number: of a core that was cut off, fewer than the program header says.
abbrev pub loaded_apart : List KnownPart → SegmentReader
loaded_apart parts index segment = elim (slice_get parts index) [
  | None ↦ Err (Truncated segment.offset)
  | Some part ↦ if_part part segment (Ok (part_bytes part))
]

-- Those of the segment of notes with a number, if they are all there, and none of them are kept as a number of zeros.
abbrev pub noted_apart : List KnownPart → SegmentReader
noted_apart parts index segment = elim (slice_get parts index) [
  | None ↦ Err (Truncated segment.offset)
  | Some part ↦ if_part part segment (
      unless (part.zeros == 0) (Truncated segment.offset) (
      unless (length part.bytes == segment.file_size) (Truncated segment.offset) (Ok part.bytes)))
]

-- What the parts say.
abbrev pub core_in_parts : List ℕ → List KnownPart → CoreResult CoreContents
core_in_parts head parts = core_by (loaded_apart parts) (noted_apart parts) head

-- This is the segment with an index.
abbrev pub IsSegment : List ℕ → ℕ → Segment → Type 0
IsSegment head index segment =
    (header : Header) × (header_of head ≡ Ok header) × (index < header.segment_count) × (segment_at head header index ≡ Ok segment)

-- A file has these parts: it begins with these bytes, and has those of each loaded segment and of each segment of notes.
pub record HasParts (bytes head : List ℕ) (parts : List KnownPart) : Type 0 where
  pub begins : (rest : List ℕ) × (bytes ≡ head ++ rest)
  pub loaded : (index : ℕ) (segment : Segment) (found : List ℕ) → IsSegment head index segment → is_loaded segment.kind ≡ true
      → loaded_apart parts index segment ≡ Ok found → bytes_left bytes segment ≡ found
  pub noted : (index : ℕ) (segment : Segment) (found : List ℕ) → IsSegment head index segment → is_note_segment segment.kind ≡ true
      → noted_apart parts index segment ≡ Ok found → segment_bytes bytes segment ≡ Ok found
