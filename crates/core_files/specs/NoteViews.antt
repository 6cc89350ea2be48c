-- What contracts see of notes.
use Rattle.std.specs.Prelude.{List, map}
use Rattle.elf_files.specs.declared.note.Note.{Note}
use Rattle.elf_files.specs.Notes.{NoteParts}
use Rattle.elf_files.specs.NoteViews.{note_seen}
use Rattle.core_files.specs.declared.mapped_files.MappedFile.{MappedFile}
use Rattle.core_files.specs.FileViews.{mapping_of}
use Rattle.core_files.specs.MappedFiles.{FileMapping}

-- Notes, with their bytes.
abbrev pub notes_seen : List Note → List NoteParts
notes_seen notes = map note_seen notes

-- Mapped files, with their names.
abbrev pub mappings_of : List MappedFile → List FileMapping
mappings_of files = map mapping_of files
