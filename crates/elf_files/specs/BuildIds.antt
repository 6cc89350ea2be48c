-- Build ids (NT_GNU_BUILD_ID, a note by linkers).
use Rattle.std.specs.Prelude.{ℕ, ◌==◌, ◌&&◌, Bool, nat_eq, if◌then◌else◌, List, [], ◌∷◌, Option, Some, None, Result, Ok}
use Rattle.std.specs.Cmp.Lexicographic.{pointwise}
use Rattle.elf_files.specs.declared.error.ElfError.{ElfError}
use Rattle.elf_files.specs.declared.header.Header.{Header}
use Rattle.elf_files.specs.declared.section.Section.{Section}
use Rattle.elf_files.specs.declared.segment.Segment.{Segment}
use Rattle.elf_files.specs.Bytes.{ElfResult, ◌>>=◌}
use Rattle.elf_files.specs.Notes.{NoteParts, section_notes, segment_notes}
use Rattle.elf_files.specs.Sections.{all_sections, if_sections, is_note_section}
use Rattle.elf_files.specs.Segments.{all_segments, if_segments, is_note_segment}
use Rattle.elf_files.specs.Tables.{first_found}

-- A note has the build id: its name is "GNU", and its type 3.
abbrev pub is_build_id : NoteParts → Bool
is_build_id note = (note.kind == 3) && pointwise nat_eq note.name (71 ∷ 78 ∷ 85 ∷ [])

-- The build id of a note, if it has one.
abbrev pub note_build_id : Result NoteParts ElfError → ElfResult (Option (List ℕ))
note_build_id note = note >>= (λ parts. Ok (if is_build_id parts then Some parts.descriptor else None))

-- The first build id of some notes.
abbrev pub build_id_in : List (Result NoteParts ElfError) → ElfResult (Option (List ℕ))
build_id_in notes = first_found note_build_id notes

-- The first build id of a section: only notes (SHT_NOTE) have one.
abbrev pub section_build_id : List ℕ → Section → ElfResult (Option (List ℕ))
section_build_id bytes section = if is_note_section section.kind then section_notes bytes section >>= build_id_in else Ok None

-- The first build id of a segment, likewise (PT_NOTE).
abbrev pub segment_build_id : List ℕ → Segment → ElfResult (Option (List ℕ))
segment_build_id bytes segment = if is_note_segment segment.kind then segment_notes bytes segment >>= build_id_in else Ok None

-- The first build id of the sections of a file.
abbrev pub by_sections : List ℕ → Header → ElfResult (Option (List ℕ))
by_sections bytes header = if_sections bytes header (first_found (section_build_id bytes) (all_sections bytes header))

-- The first build id of its segments.
abbrev pub by_segments : List ℕ → Header → ElfResult (Option (List ℕ))
by_segments bytes header = if_segments bytes header (first_found (segment_build_id bytes) (all_segments bytes header))

-- The build id of a file: by its sections, or else by its segments if it has no sections.
abbrev pub build_id : List ℕ → Header → ElfResult (Option (List ℕ))
build_id bytes header = if header.section_count == 0 then by_segments bytes header else by_sections bytes header
