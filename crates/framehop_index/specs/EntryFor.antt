-- The FDE that the index of a section has for an address, and the FDEs that it leaves out. An index keeps 32 bits of an FDE's start,
-- which is relative to a base, and 32 bits of its offset in the section.
use Rattle.std.specs.Prelude.{ℕ, ◌+◌, ◌-◌, ◌^◌, ◌&&◌, Bool, true, not, List, Option, None, option_map, Result, Ok, Err, is_none, nat_lt, nat_le, if◌then◌else◌}
use Rattle.std.specs.List.{count_by, filter}
use Rattle.dwarf_constants.specs.declared.error.Error.{Error}
use Rattle.dwarf_frame_rows.specs.FrameSection.{FrameSection}
use Rattle.dwarf_frame_entries.specs.Entries.{Fde}
use Rattle.dwarf_frame_entries.specs.EntryLists.{list_error}
use Rattle.dwarf_frame_entries.specs.SectionFdes.{fdes_of, whole_fdes, nearest_fde}
use Rattle.framehop_errors.specs.declared.cfi_index.DwarfCfiIndexError.{DwarfCfiIndexError}
use Rattle.framehop_errors.specs.declared.cfi_index.DwarfCfiIndexError.TheVariants.{Gimli}

-- an index can hold an FDE: its start isn't below the base, nor past 32 bits of it, and its offset has 32 bits
abbrev pub fits_index : (base : ℕ) → Fde → Bool
fits_index base fde =
    nat_le base fde.initial_address && nat_lt (fde.initial_address - base) (2 ^ 32) && nat_lt fde.head.offset (2 ^ 32)

-- the FDEs that the index of a section holds: those that can be read and that it can hold, in their order
abbrev pub indexed_fdes : (base : ℕ) → FrameSection → List Fde
indexed_fdes base section = filter (fits_index base) (whole_fdes section)

-- an index leaves out what can't be read, and what it can't hold
abbrev pub is_left_out : (base : ℕ) → Result Fde Error → Bool
is_left_out base (Ok fde) = not (fits_index base fde)
is_left_out base (Err e) = true

-- how many FDEs of a section its index leaves out
abbrev pub left_out : (base : ℕ) → FrameSection → ℕ
left_out base section = count_by (is_left_out base) (fdes_of section)

-- why a section has no index, if it has none: the error that ends the list of its entries
abbrev pub index_error : FrameSection → Option DwarfCfiIndexError
index_error section = option_map Gimli (list_error section)

-- the section has an index
abbrev pub has_index : FrameSection → Bool
has_index section = is_none (list_error section)

-- the FDE that the index has for an address, which is relative to the base
unfoldable pub indexed_entry : (base relative : ℕ) → FrameSection → Option Fde
indexed_entry base relative section =
    if has_index section then nearest_fde (base + relative) (indexed_fdes base section) else None
