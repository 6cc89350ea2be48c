-- The error that ends a section's list of entries, and where it is.
use Rattle.std.specs.Prelude.{ℕ, List, [], ◌∷◌, Option, Some, None, Result, Ok, Err}
use Rattle.dwarf_constants.specs.declared.error.Error.{Error}
use Rattle.dwarf_readers.specs.InitialLength.{initial_length_at}
use Rattle.dwarf_readers.specs.Stretch.{◌>>=◌, behind_at}
use Rattle.dwarf_frame_rows.specs.FrameSection.{FrameSection}
use Rattle.dwarf_frame_entries.specs.Entries.{AnyEntry}
use Rattle.dwarf_frame_entries.specs.EntryLists.{entries_of}
use Rattle.dwarf_frame_entries.specs.declared.entries.Entry.TheVariants as which
use Rattle.backtrace_lint.specs.declared.fdes.Fault.{Fault}

-- the offset of an entry
abbrev pub offset_of : AnyEntry → ℕ
offset_of (which.Cie cie) = cie.head.offset
offset_of (which.Fde partial) = partial.head.offset

-- the offset after the entry at an offset: after its length, and as many bytes as that says
abbrev pub end_of_entry : FrameSection → (offset : ℕ) → Result ℕ Error
end_of_entry section offset = do
  rest ← behind_at offset section.within.bytes
  length ← initial_length_at section.limit rest
  behind ← behind_at length.0.0 length.1
  Ok behind.offset

-- an end, or else the offset itself
abbrev pub end_or : (offset : ℕ) → Result ℕ Error → ℕ
end_or offset (Ok end) = end
end_or offset (Err error) = offset

-- the offset after an entry
abbrev pub offset_after : FrameSection → AnyEntry → ℕ
offset_after section entry = end_or (offset_of entry) (end_of_entry section (offset_of entry))

-- the error among items of a section's list, of which the first is at an offset, and where: after the entry before it
abbrev pub fault_from : FrameSection → (offset : ℕ) → List (Result AnyEntry Error) → Option Fault
fault_from section offset [] = None
fault_from section offset (Ok entry ∷ items) = fault_from section (offset_after section entry) items
fault_from section offset (Err error ∷ items) = Some (record { offset = offset; error = error })

-- the error that ends the list of a section's entries, if one does
abbrev pub fault_of : FrameSection → Option Fault
fault_of section = fault_from section 0 (entries_of section)
