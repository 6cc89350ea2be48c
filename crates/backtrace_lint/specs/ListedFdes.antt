-- The FDEs of a section's list of entries, each with its code or the error of reading it.
use Rattle.std.specs.Prelude.{ℕ, List, [], ◌∷◌, ◌++◌, Option, Some, None, Result, Ok, Err}
use Rattle.std.specs.List.{filter_map}
use Rattle.dwarf_constants.specs.declared.error.Error.{Error}
use Rattle.dwarf_frame_rows.specs.FrameSection.{FrameSection}
use Rattle.dwarf_frame_rows.specs.SectionKind.{FrameSectionKind}
use Rattle.dwarf_frame_entries.specs.Entries.{AnyEntry, Fde, PartialFde, end_address, fde_of}
use Rattle.dwarf_frame_entries.specs.EntryLists.{entries_of}
use Rattle.dwarf_frame_entries.specs.declared.entries.Entry.TheVariants as which
use Rattle.backtrace_lint.specs.declared.fdes.Code.{Code}
use Rattle.backtrace_lint.specs.declared.fdes.ListedFde.{ListedFde}

-- the code of an FDE
abbrev pub code_of : Fde → Code
code_of fde = record { start = fde.initial_address; end = end_address fde }

-- .. if the FDE can be read
abbrev pub code_read : Result Fde Error → Result Code Error
code_read (Ok fde) = Ok (code_of fde)
code_read (Err error) = Err error

-- an FDE, by what the section's offsets are below and by its kind
abbrev pub listed_fde : (limit : ℕ) → FrameSectionKind → PartialFde → ListedFde
listed_fde limit kind partial = record { offset = partial.head.offset; read = code_read (fde_of limit kind partial) }

-- the FDE that an entry is, if it isn't a CIE
abbrev pub listed_entry : (limit : ℕ) → FrameSectionKind → AnyEntry → Option ListedFde
listed_entry limit kind (which.Cie cie) = None
listed_entry limit kind (which.Fde partial) = Some (listed_fde limit kind partial)

-- FDEs with one more, if there is one
abbrev pub with_listed : List ListedFde → Option ListedFde → List ListedFde
with_listed fdes None = fdes
with_listed fdes (Some fde) = fdes ++ fde ∷ []

-- the FDE that an item of a section's list is, if it is one
abbrev pub listed_item : FrameSection → Result AnyEntry Error → Option ListedFde
listed_item section (Ok entry) = listed_entry section.limit section.kind entry
listed_item section (Err error) = None

-- the FDEs among items of a section's list
abbrev pub listed_among : FrameSection → List (Result AnyEntry Error) → List ListedFde
listed_among section items = filter_map (listed_item section) items

-- the FDEs of a section, in their order
abbrev pub listed_fdes : FrameSection → List ListedFde
listed_fdes section = listed_among section (entries_of section)
