-- The list of a section's entries, and how it ends.
use Rattle.std.specs.Prelude.{◌≡◌, ◌⊎◌, ◌==◌, ◌≤◌, Bool, true, List, [], ◌∷◌, length, Option, Some, None, Result, Ok, Err, if◌then◌else◌}
use Rattle.std.specs.List.{filter_map}
use Rattle.list_laws.specs.Items.{Answer, items_of, rest_of}
use Rattle.dwarf_constants.specs.declared.error.Error.{Error}
use Rattle.dwarf_readers.specs.Stretch.{Stretch, ◌>>=◌}
use Rattle.dwarf_readers.specs.Remainder.{size_of}
use Rattle.dwarf_frame_entries.specs.Entries.{AnyEntry, entry_at}
use Rattle.dwarf_frame_entries.specs.Parts.{IsPart}
use Rattle.dwarf_frame_rows.specs.FrameSection.{FrameSection}

-- what is read at a length: an entry, or none at a length of 0, which ends the list if `ends` is true
abbrev pub unless_ended : Bool → Option AnyEntry × Stretch → Answer Stretch (Option AnyEntry) Error
unless_ended true (None, rest) = Ok None
unless_ended ends read = Ok (Some read)

-- what is read next, until the stretch is empty or a length of 0 has ended the section
abbrev pub next_length : FrameSection → Stretch → Answer Stretch (Option AnyEntry) Error
next_length section s = if length s.bytes == 0 then Ok None else entry_at section s >>= unless_ended section.kind.ends_at_zero

-- the entry that was read, if there is one, or the error
abbrev pub entry_there : Result (Option AnyEntry) Error → Option (Result AnyEntry Error)
entry_there (Ok (Some entry)) = Some (Ok entry)
entry_there (Ok None) = None
entry_there (Err e) = Some (Err e)

-- the entries of a stretch in their order; an error is the last
unfoldable pub entries_from : FrameSection → Stretch → List (Result AnyEntry Error)
entries_from section s = filter_map entry_there (items_of size_of (next_length section) s)

-- the entries of a section
abbrev pub entries_of : FrameSection → List (Result AnyEntry Error)
entries_of section = entries_from section section.within.bytes

-- how a list of entries ends: with the section, at a length of 0, or at an error
pub data ListEnd : Type 0 where
  SectionEnd : ListEnd
  Terminator : ListEnd
  Failed : Error → ListEnd

-- the end by what is left after the last entry, and what is read there
abbrev pub end_by : Stretch → Answer Stretch (Option AnyEntry) Error → ListEnd
end_by rest (Err e) = Failed e
end_by rest (Ok next) = if length rest.bytes == 0 then SectionEnd else Terminator

-- how the list of a stretch ends
unfoldable pub list_end_from : FrameSection → Stretch → ListEnd
list_end_from section s = let rest = rest_of size_of (next_length section) s in end_by rest (next_length section rest)

-- how the list of a section ends
abbrev pub list_end : FrameSection → ListEnd
list_end section = list_end_from section section.within.bytes

-- the error that ended a list, if one did
abbrev pub end_error : ListEnd → Option Error
end_error SectionEnd = None
end_error Terminator = None
end_error (Failed e) = Some e

-- the error that ends the list of a section, if one does
abbrev pub list_error : FrameSection → Option Error
list_error section = end_error (list_end section)

-- the entries that an iterator has left, and how they end
pub record EntryList : Type 0 where
  pub entries : List (Result AnyEntry Error)
  pub end : ListEnd

-- the entries of a stretch, and how they end
abbrev pub entry_list_from : FrameSection → Stretch → EntryList
entry_list_from section s = record { entries = entries_from section s; end = list_end_from section s }

-- the entries of a section, and how they end
abbrev pub entry_list_of : FrameSection → EntryList
entry_list_of section = entry_list_from section section.within.bytes

-- What the result of `next` says of the end: an entry leaves it as it is, no entry is an end without an error, and an error is
-- the end.
abbrev pub TellsEnd : {X : Type 0} → Result (Option X) Error → ListEnd → ListEnd → Type 0
TellsEnd (Ok (Some entry)) before after = before ≡ after
TellsEnd (Ok None) before after = (before ≡ SectionEnd) ⊎ (before ≡ Terminator)
TellsEnd (Err e) before after = before ≡ Failed e

-- A section has no more entries than bytes; an error that ends its list is counted.
abbrev pub HasNoMoreThanBytes : FrameSection → Type 0
HasNoMoreThanBytes section = length (entries_of section) ≤ length section.within.bytes.bytes

-- A read gives the first entry of a stretch and leaves the others, or it gives the end of the list or its error.
abbrev pub GivesEntry : {X : Type 0} → (X → AnyEntry) → FrameSection → Result (Option X) Error → Stretch → Stretch → Type 0
GivesEntry view section (Ok (Some x)) s rest =
    (entries_from section s ≡ Ok (view x) ∷ entries_from section rest) × (list_end_from section s ≡ list_end_from section rest)
    × IsPart section.within.bytes rest
GivesEntry view section (Ok None) s rest =
    (entries_from section s ≡ []) × ((list_end_from section s ≡ SectionEnd) ⊎ (list_end_from section s ≡ Terminator))
GivesEntry view section (Err e) s rest = (entries_from section s ≡ Err e ∷ []) × (list_end_from section s ≡ Failed e)
