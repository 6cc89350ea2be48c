-- What contracts see of notes that are read in place.
use Rattle.std.specs.Prelude.{ℕ, ◌≡◌, ◌≤◌, true, false, List, length, Option, Some, None}
use Rattle.elf_files.specs.declared.note.Note.{Note}
use Rattle.elf_files.specs.Notes.{NoteParts, note_from, note_is_whole, note_size}

-- The parts of a note.
abbrev pub note_seen : Note → NoteParts
note_seen note = record { name = note.name.now; kind = note.kind; descriptor = note.descriptor.now }

-- A note is the one that some bytes begin with, and takes so many of them.
pub record IsNoteOf (alignment : ℕ) (bytes : List ℕ) (note : Note) (size : ℕ) : Type 0 where
  pub whole : note_is_whole alignment bytes ≡ true
  pub parts : note_seen note ≡ note_from alignment bytes
  pub takes : size ≡ note_size alignment bytes
  pub within : size ≤ length bytes
  pub some : 12 ≤ size

-- A note that was read is that, or there is none.
abbrev pub ReadsNote : ℕ → List ℕ → Option (Note × ℕ) → Type 0
ReadsNote alignment bytes None = note_is_whole alignment bytes ≡ false
ReadsNote alignment bytes (Some read) = IsNoteOf alignment bytes read.0 read.1
