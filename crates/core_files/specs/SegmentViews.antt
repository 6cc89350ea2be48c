-- What contracts see of the bytes of segments.
use Rattle.std.specs.Prelude.{ℕ, ◌==◌, ◌&&◌, Bool, true, List, [], ◌∷◌, map, Option, Some, None, Ok}
use Rattle.elf_files.specs.Notes.{NoteParts}
use Rattle.elf_files.specs.Segments.{segment_bytes}
use Rattle.elf_files.specs.declared.file.ElfFile.{ElfFile}
use Rattle.elf_files.specs.declared.note.Note.{Note}
use Rattle.core_files.specs.declared.memory_range.MemoryRange.{MemoryRange}
use Rattle.core_files.specs.declared.segment_bytes.SegmentBytes.{SegmentBytes}
use Rattle.core_files.specs.CoreFiles.{CoreContents, KnownPart, SegmentReader, bytes_left, core_by, core_notes, in_segment, loaded_apart, loaded_in, loaded_ranges, noted_apart, notes_in, part_bytes}
use Rattle.core_files.specs.Ranges.{KnownRange}
use Rattle.core_files.specs.NoteViews.{notes_seen}
use Rattle.core_files.specs.RangeViews.{ranges_seen}
use Rattle.core_files.specs.Refusals.{CoreResult, Appends, by_elf}

-- All bytes are 0.
unfoldable pub all_zero : List ℕ → Bool
all_zero [] = true
all_zero (byte ∷ bytes) = (byte == 0) && all_zero bytes

-- A segment: how many zeros it begins with, and its bytes after them.
abbrev pub part_seen : SegmentBytes → KnownPart
part_seen segment = record { zeros = segment.zeros; bytes = segment.bytes.items }

-- All bytes of a segment.
abbrev pub bytes_kept : SegmentBytes → List ℕ
bytes_kept segment = part_bytes (part_seen segment)

-- Several segments.
abbrev pub parts_seen : List SegmentBytes → List KnownPart
parts_seen parts = map part_seen parts

-- Where the bytes of loaded segments are: among those that were read apart, or else in the file.
abbrev pub loaded_by : Option (List SegmentBytes) → List ℕ → SegmentReader
loaded_by None bytes index segment = Ok (bytes_left bytes segment)
loaded_by (Some parts) bytes index segment = loaded_apart (parts_seen parts) index segment

-- Where the bytes of segments with notes are, likewise.
abbrev pub noted_by : Option (List SegmentBytes) → List ℕ → SegmentReader
noted_by None bytes index = segment_bytes bytes
noted_by (Some parts) bytes index = noted_apart (parts_seen parts) index

-- Where the bytes of a file's loaded segments are.
abbrev pub loaded_of : Option (List SegmentBytes) → ElfFile → SegmentReader
loaded_of parts file = loaded_by parts file.bytes.now

-- Where those of its segments with notes are.
abbrev pub noted_of : Option (List SegmentBytes) → ElfFile → SegmentReader
noted_of parts file = noted_by parts file.bytes.now

-- The loaded ranges of a file.
abbrev pub ranges_by : Option (List SegmentBytes) → ElfFile → CoreResult (List KnownRange)
ranges_by parts file = by_elf (loaded_ranges (loaded_of parts file) file.bytes.now file.header)

-- The loaded ranges of the segment with an index.
abbrev pub ranges_at : Option (List SegmentBytes) → ElfFile → ℕ → CoreResult (List KnownRange)
ranges_at parts file index = by_elf (in_segment (loaded_in (loaded_of parts file index)) file.bytes.now file.header index)

-- The notes of a file.
abbrev pub notes_by : Option (List SegmentBytes) → ElfFile → CoreResult (List NoteParts)
notes_by parts file = by_elf (core_notes (noted_of parts file) file.bytes.now file.header)

-- The notes of the segment with an index.
abbrev pub notes_at : Option (List SegmentBytes) → ElfFile → ℕ → CoreResult (List NoteParts)
notes_at parts file index = by_elf (in_segment (notes_in (noted_of parts file index)) file.bytes.now file.header index)

-- What a core says, whose segments were read apart or are in the file.
abbrev pub core_read : Option (List SegmentBytes) → List ℕ → CoreResult CoreContents
core_read parts bytes = core_by (loaded_by parts bytes) (noted_by parts bytes) bytes

-- A call made a list of ranges longer by what is said.
abbrev pub AppendsRanges : {U : Type 0} → List MemoryRange → List MemoryRange → CoreResult U → CoreResult (List KnownRange) → Type 0
AppendsRanges old new result said = Appends (ranges_seen old) (ranges_seen new) result said

-- A call made a list of notes longer by what is said.
abbrev pub AppendsNotes : {U : Type 0} → List Note → List Note → CoreResult U → CoreResult (List NoteParts) → Type 0
AppendsNotes old new result said = Appends (notes_seen old) (notes_seen new) result said
