-- Laws of truthful headers. Each is the contract of a function of the crate.
use Rattle.std.specs.Prelude.{◌≡◌, ℕ, ◌<◌, true, false, Some, None, Ok, Err}
use Rattle.std.specs.List.{Contains}
use Rattle.dwarf_constants.specs.declared.error.Error.TheVariants.{NoUnwindInfoForAddress}
use Rattle.dwarf_frame_rows.specs.declared.base_addresses.BaseAddresses.{BaseAddresses}
use Rattle.dwarf_frame_rows.specs.FrameSection.{FrameSection}
use Rattle.dwarf_frame_entries.specs.AddressLookups.{fde_for_address_skipping}
use Rattle.dwarf_frame_entries.specs.Entries.{Fde, contains}
use Rattle.dwarf_frame_entries.specs.SectionFdes.{whole_fdes, nearest_fde}
use Rattle.dwarf_call_frames.specs.Header.{Header}
use Rattle.dwarf_call_frames.specs.HeaderEntries.{fde_by_header, named_offset}
use Rattle.dwarf_call_frames.specs.Truthful.{IsTruthful}
use Rattle.dwarf_call_frames.proofs.TruthfulRows as truthful
use Rattle.dwarf_call_frames.proofs.HeadersAndScans as scans

module _ (section : FrameSection) (bases : BaseAddresses) (header : Header) (t : IsTruthful section bases header) where
  -- an FDE that contains an address stands where the header says, is the nearest, and is found from the first entry on
  pub named_contained : (address : ℕ) (fde : Fde) → Contains (whole_fdes section) fde → contains address fde ≡ true → named_offset section.limit bases header address ≡ Ok fde.head.offset
  named_contained = truthful.named_contained section bases header t

  pub nearest_contained : (address : ℕ) (fde : Fde) → Contains (whole_fdes section) fde → contains address fde ≡ true → nearest_fde address (whole_fdes section) ≡ Some fde
  nearest_contained = truthful.nearest_contained section bases header t

  pub scanned_contained : (address : ℕ) (fde : Fde) → Contains (whole_fdes section) fde → contains address fde ≡ true → fde_for_address_skipping section address ≡ Ok fde
  scanned_contained = truthful.scanned_contained section bases header t

  -- the nearest stands where the header says, and where it doesn't contain the address, none does
  pub named_nearest : (address : ℕ) (fde : Fde) → nearest_fde address (whole_fdes section) ≡ Some fde → named_offset section.limit bases header address ≡ Ok fde.head.offset
  named_nearest = truthful.named_nearest section bases header t

  pub scanned_outside : (address : ℕ) (fde : Fde) → nearest_fde address (whole_fdes section) ≡ Some fde → contains address fde ≡ false → fde_for_address_skipping section address ≡ Err NoUnwindInfoForAddress
  scanned_outside = truthful.scanned_outside section bases header t

  -- below all starts an FDE is named that starts above, where there are rows, and none contains the address
  pub named_below : 0 < header.count → (address : ℕ) → nearest_fde address (whole_fdes section) ≡ None
      → (fde : Fde) × (Contains (whole_fdes section) fde × ((address < fde.initial_address) × (named_offset section.limit bases header address ≡ Ok fde.head.offset)))
  named_below = truthful.named_below section bases header t

  pub scanned_below : (address : ℕ) → nearest_fde address (whole_fdes section) ≡ None → fde_for_address_skipping section address ≡ Err NoUnwindInfoForAddress
  scanned_below = truthful.scanned_below section bases header t

  -- there are rows, where there is an FDE
  pub has_rows : (fde : Fde) → Contains (whole_fdes section) fde → 0 < header.count
  has_rows = truthful.has_rows section bases header t

  -- for each address a lookup by the header finds what a scan does
  pub header_as_scan : (address : ℕ) → fde_by_header section bases header address ≡ fde_for_address_skipping section address
  header_as_scan = scans.header_as_scan section bases header t
