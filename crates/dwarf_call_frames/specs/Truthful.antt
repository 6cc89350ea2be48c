-- Truthful headers: the table has a row for each FDE of the section that can be read, in the order of their starts (LSB 5.0, 10.6.2),
-- and what such a header finds.
use Rattle.std.specs.Prelude.{◌≡◌, ◌<◌, ℕ, ◌+◌, true, false, List, map, Option, Some, None, Result, Ok, Err, nat_lt}
use Rattle.std.specs.List.{All, AllPass, Contains}
use Rattle.std.specs.List.Sorted.{IsPermutation, IsStrictlyIncreasing}
use Rattle.dwarf_constants.specs.declared.error.Error.{Error}
use Rattle.dwarf_constants.specs.declared.error.Error.TheVariants.{NoUnwindInfoForAddress}
use Rattle.dwarf_frame_rows.specs.declared.base_addresses.BaseAddresses.{BaseAddresses}
use Rattle.dwarf_frame_rows.specs.declared.pointer.Pointer.{Pointer}
use Rattle.dwarf_frame_rows.specs.declared.pointer.Pointer.TheVariants.{Direct}
use Rattle.dwarf_frame_rows.specs.FrameSection.{FrameSection}
use Rattle.dwarf_frame_entries.specs.AddressLookups.{fde_for_address_skipping}
use Rattle.dwarf_frame_entries.specs.Entries.{Fde, contains}
use Rattle.dwarf_frame_entries.specs.EntryLists.{list_error}
use Rattle.dwarf_frame_entries.specs.SectionFdes.{nearest_fde, whole_fdes}
use Rattle.dwarf_call_frames.specs.Halving.{row_with_start}
use Rattle.dwarf_call_frames.specs.Header.{Header}
use Rattle.dwarf_call_frames.specs.HeaderEntries.{fde_by_header, named_offset}
use Rattle.dwarf_call_frames.specs.HeaderTable.{pointer_size, rows_by_index, header_table}

-- ---- sound sections

-- No FDE starts in another's code.
abbrev pub AreApart : List Fde → Type 0
AreApart fdes = All (λ fde. All (λ other. contains other.initial_address fde ≡ true → other ≡ fde) fdes) fdes

-- No error ends the list of entries. Of the FDEs that can be read none starts in another's code, and the offset of each is one of the
-- section's. Others may be there.
pub record IsSound (section : FrameSection) : Type 0 where
  pub ends : list_error section ≡ None
  pub apart : AreApart (whole_fdes section)
  pub have_offsets : AllPass (λ fde. nat_lt fde.head.offset section.limit) (whole_fdes section)

-- ---- truthful headers

-- the row of an FDE: the start of its code, and the address of the FDE itself, in a section that starts at this address
abbrev pub row_of_fde : (section_start : ℕ) → Fde → ℕ × Result Pointer Error
row_of_fde section_start fde = (fde.initial_address, Ok (Direct (section_start + fde.head.offset)))

-- The header describes the section, as far as its FDEs can be read.
pub record IsTruthful (section : FrameSection) (bases : BaseAddresses) (header : Header) : Type 0 where
  pub sound : IsSound section
  -- the header points at the start of the section
  pub section_start : ℕ
  pub starts_there : header.eh_frame_ptr ≡ Direct section_start
  -- the pointers of the table have one size
  pub size : ℕ
  pub has_size : pointer_size header.table_encoding ≡ Ok size
  -- the table is the FDEs of the section that can be read, each start below the next
  pub fdes : List Fde
  pub are_all : IsPermutation (whole_fdes section) fdes
  pub increase : IsStrictlyIncreasing (map (λ fde. fde.initial_address) fdes)
  pub rows : rows_by_index section.limit size (header_table bases.eh_frame_hdr header)
      ≡ map row_with_start (map (row_of_fde section_start) fdes)

-- a section of call frames with a header that describes it
pub record TruthfulHeader : Type 0 where
  pub section : FrameSection
  pub bases : BaseAddresses
  pub header : Header
  pub truthful : IsTruthful section bases header

-- ---- what lookups of an address find

-- of the section's FDEs with the greatest start at or below an address, the first
abbrev pub nearest_in : FrameSection → ℕ → Option Fde
nearest_in section address = nearest_fde address (whole_fdes section)

-- the offset in the section of the FDE that the header gives for an address
abbrev pub offset_by_header : TruthfulHeader → ℕ → Result ℕ Error
offset_by_header t address = named_offset t.section.limit t.bases t.header address

-- what a lookup of the FDE for an address by the header gives
abbrev pub fde_found_by_header : TruthfulHeader → ℕ → Result Fde Error
fde_found_by_header t address = fde_by_header t.section t.bases t.header address

-- The section has this FDE, and it contains the address.
pub record HasFdeFor (section : FrameSection) (address : ℕ) (fde : Fde) : Type 0 where
  pub there : Contains (whole_fdes section) fde
  pub inside : contains address fde ≡ true

-- The header, the nearest start and a scan of the section, which passes over FDEs that can't be read, give this FDE alike.
pub record AllFind (t : TruthfulHeader) (address : ℕ) (fde : Fde) : Type 0 where
  pub by_header : offset_by_header t address ≡ Ok fde.head.offset
  pub by_start : nearest_in t.section address ≡ Some fde
  pub by_scan : fde_for_address_skipping t.section address ≡ Ok fde

-- The header gives this FDE; if that doesn't contain the address, a scan finds none.
pub record HeaderFinds (t : TruthfulHeader) (address : ℕ) (fde : Fde) : Type 0 where
  pub by_header : offset_by_header t address ≡ Ok fde.head.offset
  pub by_scan : contains address fde ≡ false → fde_for_address_skipping t.section address ≡ Err NoUnwindInfoForAddress

-- The header, if its table has rows, gives an FDE that starts above the address; a scan finds none.
pub record HeaderFindsAbove (t : TruthfulHeader) (address : ℕ) : Type 0 where
  pub by_header : 0 < t.header.count
      → (fde : Fde) × (Contains (whole_fdes t.section) fde × ((address < fde.initial_address)
      × (offset_by_header t address ≡ Ok fde.head.offset)))
  pub by_scan : fde_for_address_skipping t.section address ≡ Err NoUnwindInfoForAddress
