-- The CIEs of a section that its index keeps.
use Rattle.std.specs.Prelude.{ℕ, min, List, length, Option, Some, None, Result, Ok, Err, if◌then◌else◌}
use Rattle.std.specs.List.{filter_map}
use Rattle.dwarf_constants.specs.declared.error.Error.{Error}
use Rattle.dwarf_frame_rows.specs.FrameSection.{FrameSection}
use Rattle.dwarf_frame_entries.specs.declared.entries.Entry.TheVariants as which
use Rattle.dwarf_frame_entries.specs.Entries.{AnyEntry}
use Rattle.dwarf_frame_entries.specs.EntryLists.{entries_of}
use Rattle.framehop_index.specs.FdeLookups.{PlacedFrames, is_indexed, section_of}

-- the offset of an item of a section's list, if the item is a CIE
abbrev pub cie_offset_in : Result AnyEntry Error → Option ℕ
cie_offset_in (Ok (which.Cie cie)) = Some cie.head.offset
cie_offset_in (Ok (which.Fde partial)) = None
cie_offset_in (Err e) = None

-- the offsets of a section's CIEs, in their order
abbrev pub cie_offsets : FrameSection → List ℕ
cie_offsets section = filter_map cie_offset_in (entries_of section)

-- how many CIEs are kept at most
abbrev pub most_kept : ℕ
most_kept = 255

-- how many CIEs are kept with the index by which FDEs are found, if they are found so
abbrev pub cies_kept : PlacedFrames → Option ℕ
cies_kept frames = if is_indexed frames then Some (min most_kept (length (cie_offsets (section_of frames)))) else None
