-- The FDEs of a section, and what is at the offsets of its entries.
use Rattle.std.specs.Prelude.{◌≡◌, ℕ, List, Option, None, Result, Ok, Err, nat_le}
use Rattle.std.specs.List.{filter, filter_map}
use Rattle.std.specs.Result.{result_ok}
use Rattle.list_laws.specs.Greatest.{first_greatest}
use Rattle.dwarf_constants.specs.declared.error.Error.{Error}
use Rattle.dwarf_frame_rows.specs.FrameSection.{FrameSection}
use Rattle.dwarf_frame_entries.specs.declared.entries.Entry.TheVariants as which
use Rattle.dwarf_frame_entries.specs.Entries.{AnyEntry, Fde, cie_from_offset, fde_from_offset, fde_of_entry, partial_fde_from_offset}
use Rattle.dwarf_frame_entries.specs.EntryLists.{entries_of}

-- the FDE of an item of a section's list, or the error of reading it, if the item is an FDE
abbrev pub fde_in : FrameSection → Result AnyEntry Error → Option (Result Fde Error)
fde_in section (Ok entry) = fde_of_entry section entry
fde_in section (Err e) = None

-- the FDEs of a section in their order, or the error of each that can't be read
abbrev pub fdes_of : FrameSection → List (Result Fde Error)
fdes_of section = filter_map (fde_in section) (entries_of section)

-- the FDEs that can be read
unfoldable pub whole_fdes : FrameSection → List Fde
whole_fdes section = filter_map result_ok (fdes_of section)

-- of the FDEs with the greatest start at or below an address, the first in the section
abbrev pub nearest_fde : ℕ → List Fde → Option Fde
nearest_fde address fdes = first_greatest (λ fde. fde.initial_address) (filter (λ fde. nat_le fde.initial_address address) fdes)

-- An item of a section's list, unless it is an error, is what is at its offset in the section.
abbrev pub StandsThere : FrameSection → Result AnyEntry Error → Type 0
StandsThere section (Ok (which.Cie cie)) = cie_from_offset section cie.head.offset ≡ Ok cie
StandsThere section (Ok (which.Fde partial)) = partial_fde_from_offset section partial.head.offset ≡ Ok partial
StandsThere section (Err e) = Unit {0}

-- An item of a section's list, if it is an FDE, is read in this section.
abbrev pub IsOfSection : FrameSection → Result AnyEntry Error → Type 0
IsOfSection section (Ok (which.Cie cie)) = Unit {0}
IsOfSection section (Ok (which.Fde partial)) = partial.within ≡ section.within
IsOfSection section (Err e) = Unit {0}

-- The FDE is what is at its offset in the section.
abbrev pub StandsAtItsOffset : FrameSection → Fde → Type 0
StandsAtItsOffset section fde = fde_from_offset section fde.head.offset ≡ Ok fde

-- The CIE of each FDE that is read at an offset is what is at its own offset.
abbrev pub CiesStandAtTheirOffsets : FrameSection → Type 0
CiesStandAtTheirOffsets section = (offset : ℕ) (fde : Fde) → fde_from_offset section offset ≡ Ok fde
    → cie_from_offset section fde.cie.head.offset ≡ Ok fde.cie
