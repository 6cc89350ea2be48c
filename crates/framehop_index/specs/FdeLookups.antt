-- The FDE of a section of call frames for an address, by whatever finds it.
use Rattle.std.specs.Prelude.{ℕ, ◌+◌, ◌^◌, ◌&&◌, Bool, true, false, List, Option, Some, None, Result, Ok, Err, is_some, nat_lt, if◌then◌else◌}
use Rattle.dwarf_constants.specs.declared.error.Error.{Error}
use Rattle.dwarf_constants.specs.declared.error.Error.TheVariants.{NoUnwindInfoForAddress, UnsupportedOffset}
use Rattle.dwarf_frame_entries.specs.AddressLookups.{fde_for_address_skipping}
use Rattle.dwarf_frame_entries.specs.Entries.{Fde, contains, fde_from_offset}
use Rattle.dwarf_frame_rows.specs.declared.base_addresses.BaseAddresses.{BaseAddresses}
use Rattle.dwarf_frame_rows.specs.FrameSection.{FrameSection}
use Rattle.framehop_errors.specs.declared.dwarf.DwarfUnwinderError.TheVariants.{FdeFromOffsetFailed, LookupAddressOverflow}
use Rattle.framehop_errors.specs.declared.unwinder.UnwinderError.{UnwinderError}
use Rattle.framehop_errors.specs.declared.unwinder.UnwinderError.TheVariants.{Dwarf, DwarfCfiIndexCouldNotFindAddress, EhFrameHdrCouldNotFindAddress}
use Rattle.framehop_index.specs.EntryFor.{has_index}
use Rattle.framehop_index.specs.Lookups.{found_by_header, found_by_index, parsed_header}
use Rattle.framehop_index.specs.SectionTypes.{section_of_type}
use Rattle.framehop_index.specs.declared.section_type.UnwindSectionType.{UnwindSectionType}

-- how the FDE for an address is found: by an index of the section, by a header of these bytes, or by reading the section from its
-- first entry on
pub data Lookup : Type 0 where
  ByIndex : Lookup
  ByHeader : List ℕ → Lookup
  ByScan : Lookup

-- A section of call frames with the lookup of its FDEs, the addresses that its pointers are relative to, and the base that relative
-- addresses are relative to.
pub record PlacedFrames : Type 0 where
  pub section : UnwindSectionType (List ℕ)
  pub lookup : Lookup
  pub bases : BaseAddresses
  pub base_svma : ℕ

-- a section with these
abbrev pub placed : UnwindSectionType (List ℕ) → Lookup → BaseAddresses → (base : ℕ) → PlacedFrames
placed section lookup bases base = record { section = section; lookup = lookup; bases = bases; base_svma = base }

-- What is known of the FDE for an address: which it is; that no FDE that can be read contains the address; or why neither is known.
abbrev pub FoundFde : Type 0
FoundFde = Result (Option Fde) UnwinderError

-- an FDE that can't be read
abbrev pub unread : Error → FoundFde
unread e = Err (Dwarf (FdeFromOffsetFailed e))

-- by what is at an offset
abbrev pub fde_read : Result Fde Error → FoundFde
fde_read (Ok fde) = Ok (Some fde)
fde_read (Err e) = unread e

-- by the offset that was found, if one was
abbrev pub fde_found : FrameSection → (not_found : UnwinderError) → Option ℕ → FoundFde
fde_found section not_found (Some offset) = fde_read (fde_from_offset section offset)
fde_found section not_found None = Err not_found

-- an FDE at an offset of 32 bits
abbrev pub near_fde : Fde → Result (Option Fde) Error
near_fde fde = if nat_lt fde.head.offset (2 ^ 32) then Ok (Some fde) else Err UnsupportedOffset

-- what a scan finds, which has to be at such an offset; after the whole list it is known that no FDE contains the address
abbrev pub fde_scanned : Result Fde Error → Result (Option Fde) Error
fde_scanned (Ok fde) = near_fde fde
fde_scanned (Err NoUnwindInfoForAddress) = Ok None
fde_scanned (Err e) = Err e

-- .. as what is known of the FDE
abbrev pub known_of : Result (Option Fde) Error → FoundFde
known_of (Ok found) = Ok found
known_of (Err e) = unread e

-- by what a scan finds
abbrev pub fde_by_scan : Result Fde Error → FoundFde
fde_by_scan found = known_of (fde_scanned found)

-- by a lookup, for an address that is relative to a base and has 64 bits
abbrev pub fde_by : Lookup → BaseAddresses → FrameSection → (base relative : ℕ) → FoundFde
fde_by ByIndex bases section base relative = fde_found section DwarfCfiIndexCouldNotFindAddress (found_by_index section base relative)
fde_by (ByHeader bytes) bases section base relative =
    fde_found section EhFrameHdrCouldNotFindAddress (found_by_header bases (parsed_header bases (Some bytes)) base relative)
fde_by ByScan bases section base relative = fde_by_scan (fde_for_address_skipping section (base + relative))

-- the section
abbrev pub section_of : PlacedFrames → FrameSection
section_of frames = section_of_type frames.bases frames.section

-- FDEs are found by an index
abbrev pub is_by_index : Lookup → Bool
is_by_index ByIndex = true
is_by_index (ByHeader bytes) = false
is_by_index ByScan = false

-- and the section has one
abbrev pub is_indexed : PlacedFrames → Bool
is_indexed frames = is_by_index frames.lookup && has_index (section_of frames)

-- the FDE for a relative address
abbrev pub fde_for : PlacedFrames → (relative : ℕ) → FoundFde
fde_for frames relative =
    if nat_lt (frames.base_svma + relative) (2 ^ 64) then fde_by frames.lookup frames.bases (section_of frames) frames.base_svma relative
    else Err (Dwarf LookupAddressOverflow)

-- the FDE that was found, if it contains an address
abbrev pub fde_around : (address : ℕ) → FoundFde → Option Fde
fde_around address (Ok (Some fde)) = if contains address fde then Some fde else None
fde_around address (Ok None) = None
fde_around address (Err e) = None

-- the FDE for a relative address, if it contains the address
abbrev pub covering_fde : PlacedFrames → (relative : ℕ) → Option Fde
covering_fde frames relative = fde_around (frames.base_svma + relative) (fde_for frames relative)

-- the FDE for a relative address contains it
abbrev pub covers : PlacedFrames → (relative : ℕ) → Bool
covers frames relative = is_some (covering_fde frames relative)
