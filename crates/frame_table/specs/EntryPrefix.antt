-- What an entry begins with (DWARF 5, 6.4.1), its length and its id; and the text of a CIE's augmentation.
use Rattle.std.specs.Prelude.{ℕ, List, Result, Ok}
use Rattle.dwarf_constants.specs.declared.error.Error.{Error}
use Rattle.dwarf_readers.specs.InitialLength.{initial_length_at}
use Rattle.dwarf_readers.specs.Stretch.{Stretch, ◌>>=◌, behind_at, byte_at, string_at}
use Rattle.dwarf_frame_rows.specs.declared.section.CieOffsetEncoding.{CieOffsetEncoding}
use Rattle.dwarf_frame_rows.specs.FrameSection.{FrameSection}
use Rattle.dwarf_frame_entries.specs.Entries.{id_at}

-- the width of the id, the id, the bytes after it, and the offset after the entry
pub record EntryPrefix : Type 0 where
  pub width : CieOffsetEncoding
  pub id : ℕ
  pub parts : Stretch
  pub end : ℕ

-- the prefix of the entry at an offset
abbrev pub entry_prefix_at : FrameSection → ℕ → Result EntryPrefix Error
entry_prefix_at section offset = do
  rest ← behind_at offset section.within.bytes
  length ← initial_length_at section.limit rest
  id ← id_at (section.kind.id_width length.0.1) length.1
  behind ← behind_at length.0.0 length.1
  Ok (record { width = section.kind.id_width length.0.1; id = id.0; parts = id.1; end = behind.offset })

-- the text of the augmentation of the CIE with this prefix, which is after the version
abbrev pub augmentation_text : EntryPrefix → Result (List ℕ) Error
augmentation_text prefix = do
  version ← byte_at prefix.parts
  text ← string_at version.1
  Ok text.0.bytes
