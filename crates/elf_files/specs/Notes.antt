-- Notes (System V gABI, "Note Section"): each is a name, a type and a descriptor.
use Rattle.std.specs.Prelude.{ℕ, ◌+◌, ◌-◌, ◌==◌, ◌&&◌, nat_le, min, Bool, if◌then◌else◌, List, length, take, drop, slice_index, Some, None, Ok, Result}
use Rattle.std.specs.Int.{next_multiple_of}
use Rattle.list_laws.specs.Items.{Answer, items_of}
use Rattle.elf_files.specs.declared.error.ElfError.{ElfError}
use Rattle.elf_files.specs.declared.error.ElfError.TheVariants.{Truncated}
use Rattle.elf_files.specs.declared.section.Section.{Section}
use Rattle.elf_files.specs.declared.segment.Segment.{Segment}
use Rattle.elf_files.specs.Bytes.{ElfResult, ◌>>=◌, unless, number_at}
use Rattle.elf_files.specs.Sections.{section_bytes}
use Rattle.elf_files.specs.Segments.{segment_bytes}

-- A note: its name without the 0 that ends it, its type, and its descriptor.
pub record NoteParts : Type 0 where
  pub name : List ℕ
  pub kind : ℕ
  pub descriptor : List ℕ

-- Bytes of notes, and the offset of the first in the file.
pub record NoteBytes : Type 0 where
  pub bytes : List ℕ
  pub offset : ℕ

-- How the parts of notes are aligned: to 8 bytes if the segment or section is, or else to 4.
abbrev pub note_alignment : ℕ → ℕ
note_alignment alignment = if alignment == 8 then 8 else 4

-- The size of a note's name in bytes, with the 0 that ends it.
abbrev pub n_namesz : List ℕ → ℕ
n_namesz bytes = number_at 4 bytes 0

-- The size of its descriptor in bytes.
abbrev pub n_descsz : List ℕ → ℕ
n_descsz bytes = number_at 4 bytes 4

-- Its type.
abbrev pub n_type : List ℕ → ℕ
n_type bytes = number_at 4 bytes 8

-- Bytes without a 0 that ends them.
abbrev pub without_end : List ℕ → List ℕ
without_end name = if slice_index name (length name - 1) == 0 then take (length name - 1) name else name

-- Where the descriptor of a note begins: after the name, aligned.
abbrev pub descriptor_start : ℕ → List ℕ → ℕ
descriptor_start alignment bytes = next_multiple_of (12 + n_namesz bytes) alignment

-- Where it ends.
abbrev pub descriptor_end : ℕ → List ℕ → ℕ
descriptor_end alignment bytes = descriptor_start alignment bytes + n_descsz bytes

-- The note that some bytes begin with.
unfoldable pub note_from : ℕ → List ℕ → NoteParts
note_from alignment bytes = record {
  name = without_end (take (n_namesz bytes) (drop 12 bytes));
  kind = n_type bytes;
  descriptor = take (n_descsz bytes) (drop (descriptor_start alignment bytes) bytes);
}

-- It is whole.
abbrev pub note_is_whole : ℕ → List ℕ → Bool
note_is_whole alignment bytes = nat_le 12 (length bytes) && nat_le (descriptor_end alignment bytes) (length bytes)

-- How many bytes it takes: its descriptor is padded, but for the last one, whose padding may be missing.
abbrev pub note_size : ℕ → List ℕ → ℕ
note_size alignment bytes = min (next_multiple_of (descriptor_end alignment bytes) alignment) (length bytes)

-- What is left after it.
abbrev pub after_note : ℕ → NoteBytes → NoteBytes
after_note alignment left = let size = note_size alignment left.bytes in record { bytes = drop size left.bytes; offset = left.offset + size }

-- The next note, and what is left after it.
abbrev pub next_note : ℕ → NoteBytes → Answer NoteBytes NoteParts ElfError
next_note alignment left =
    if length left.bytes == 0 then Ok None else
    unless (note_is_whole alignment left.bytes) (Truncated left.offset)
    (Ok (Some (note_from alignment left.bytes, after_note alignment left)))

-- All notes, one after the other; an error is the last.
unfoldable pub notes_of : ℕ → NoteBytes → List (Result NoteParts ElfError)
notes_of alignment left = items_of (λ left. length left.bytes) (next_note alignment) left

-- The notes of a segment that has these bytes.
abbrev pub notes_with : List ℕ → Segment → List (Result NoteParts ElfError)
notes_with found segment = notes_of (note_alignment segment.alignment) (record { bytes = found; offset = segment.offset })

-- The notes of a segment.
abbrev pub segment_notes : List ℕ → Segment → ElfResult (List (Result NoteParts ElfError))
segment_notes bytes segment = segment_bytes bytes segment >>= (λ found. Ok (notes_with found segment))

-- The notes of a section.
abbrev pub section_notes : List ℕ → Section → ElfResult (List (Result NoteParts ElfError))
section_notes bytes section =
    section_bytes bytes section >>= (λ found. Ok (notes_of (note_alignment section.alignment) (record { bytes = found; offset = section.offset })))
