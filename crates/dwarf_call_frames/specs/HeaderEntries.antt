-- The FDE that the table of a header gives for an address, and its row (LSB 5.0, 10.6.1 and 10.6.2).
use Rattle.std.specs.Prelude.{ℕ, Result, Ok}
use Rattle.dwarf_constants.specs.declared.common.Vendor.{Vendor}
use Rattle.dwarf_constants.specs.declared.error.Error.{Error}
use Rattle.dwarf_constants.specs.declared.error.Error.TheVariants.{NoUnwindInfoForAddress}
use Rattle.dwarf_readers.specs.Stretch.{Stretch, ◌>>=◌, requirement}
use Rattle.dwarf_frame_rows.specs.Effects.{Limits}
use Rattle.dwarf_frame_rows.specs.Row.{Row}
use Rattle.dwarf_frame_rows.specs.declared.base_addresses.BaseAddresses.{BaseAddresses}
use Rattle.dwarf_frame_rows.specs.FrameSection.{FrameSection, frame_section}
use Rattle.dwarf_frame_sections.specs.Sections.{FrameData, eh_frame}
use Rattle.dwarf_frame_entries.specs.Entries.{Fde, contains, fde_from_offset}
use Rattle.dwarf_frame_entries.specs.EntryPrograms.{fde_row}
use Rattle.dwarf_call_frames.specs.Header.{Header, offset_of_pointer}
use Rattle.dwarf_call_frames.specs.HeaderTable.{header_row, header_table}

-- the section `.eh_frame` of the code, whose reader has offsets below the limit
abbrev pub eh_frame_in : {R : Type 0} → (R → Stretch) → (limit : ℕ) → FrameData R → BaseAddresses → FrameSection
eh_frame_in stretch limit section bases = frame_section limit eh_frame section.address_size (stretch section.reader) bases

-- the offset in `.eh_frame` of the FDE for an address
abbrev pub named_offset : (limit : ℕ) → BaseAddresses → Header → ℕ → Result ℕ Error
named_offset limit bases header address = do
  pointer ← header_row limit address (header_table bases.eh_frame_hdr header)
  offset_of_pointer limit header pointer

-- the FDE for an address, if it contains the address
abbrev pub fde_by_header : FrameSection → BaseAddresses → Header → ℕ → Result Fde Error
fde_by_header section bases header address = do
  offset ← named_offset section.limit bases header address
  fde ← fde_from_offset section offset
  _ ← requirement (contains address fde) NoUnwindInfoForAddress
  Ok fde

-- the row of that FDE for the address
abbrev pub row_by_header : Limits → FrameSection → Vendor → BaseAddresses → Header → ℕ → Result (Row ℕ) Error
row_by_header limits section vendor bases header address = do
  fde ← fde_by_header section bases header address
  fde_row limits section vendor fde address
