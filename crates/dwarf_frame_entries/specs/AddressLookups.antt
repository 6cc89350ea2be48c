-- The FDE of a section for an address, and its row there (DWARF 5, 6.4.3).
use Rattle.std.specs.Prelude.{ℕ, Bool, true, List, Option, Some, unwrap_or, Result, Ok, Err}
use Rattle.std.specs.List.{filter_map, find}
use Rattle.std.specs.Option.{ok_or}
use Rattle.dwarf_constants.specs.declared.common.Vendor.{Vendor}
use Rattle.dwarf_constants.specs.declared.error.Error.{Error}
use Rattle.dwarf_constants.specs.declared.error.Error.TheVariants.{NoUnwindInfoForAddress}
use Rattle.dwarf_readers.specs.Stretch.{◌>>=◌}
use Rattle.dwarf_frame_rows.specs.Effects.{Limits}
use Rattle.dwarf_frame_rows.specs.Row.{Row}
use Rattle.dwarf_frame_rows.specs.FrameSection.{FrameSection}
use Rattle.dwarf_frame_entries.specs.Entries.{AnyEntry, Fde, contains, fde_of_entry}
use Rattle.dwarf_frame_entries.specs.EntryLists.{entries_of, list_error}
use Rattle.dwarf_frame_entries.specs.EntryPrograms.{fde_row}
use Rattle.dwarf_frame_entries.specs.SectionFdes.{whole_fdes}

-- what an item of a section's list is for a lookup: an FDE with its CIE, or the error of reading it, or the error that ends the
-- list; a CIE is passed over
abbrev pub fde_or_error : FrameSection → Result AnyEntry Error → Option (Result Fde Error)
fde_or_error section (Ok entry) = fde_of_entry section entry
fde_or_error section (Err e) = Some (Err e)

-- a lookup ends at an FDE that contains the address, and at any error
abbrev pub decides : ℕ → Result Fde Error → Bool
decides address (Ok fde) = contains address fde
decides address (Err e) = true

-- the first FDE or error at which a lookup ends
abbrev pub first_deciding : ℕ → List (Result Fde Error) → Result Fde Error
first_deciding address fdes = unwrap_or (find (decides address) fdes) (Err NoUnwindInfoForAddress)

-- the FDE for an address among items of a section's list
abbrev pub fde_for : FrameSection → ℕ → List (Result AnyEntry Error) → Result Fde Error
fde_for section address entries = first_deciding address (filter_map (fde_or_error section) entries)

-- the FDE for an address: the first in the section that contains it, or the first error before it
abbrev pub fde_for_address : FrameSection → ℕ → Result Fde Error
fde_for_address section address = fde_for section address (entries_of section)

-- the FDE for an address if FDEs that can't be read are passed over: the first that can be read and contains it; or else the error that
-- ends the section's list, if one does
abbrev pub fde_for_address_skipping : FrameSection → ℕ → Result Fde Error
fde_for_address_skipping section address =
    ok_or (find (contains address) (whole_fdes section)) (unwrap_or (list_error section) NoUnwindInfoForAddress)

-- the row of a section for an address: that of its FDE, or the error of finding or executing it
abbrev pub section_row : Limits → FrameSection → Vendor → ℕ → Result (Row ℕ) Error
section_row limits section vendor address = do
  fde ← fde_for_address section address
  fde_row limits section vendor fde address
