-- The offset of the FDE for an address, by a header and by an index.
use Rattle.std.specs.Prelude.{ℕ, ◌+◌, ◌^◌, List, Option, Some, None, option_map, Result, false, nat_lt, if◌then◌else◌}
use Rattle.std.specs.Option.{ok_or}
use Rattle.std.specs.Result.{result_ok}
use Rattle.dwarf_constants.specs.declared.error.Error.{Error}
use Rattle.dwarf_constants.specs.declared.error.Error.TheVariants.{NoUnwindInfoForAddress}
use Rattle.dwarf_endianity.specs.Offset.{offset_below}
use Rattle.dwarf_readers.specs.Stretch.{◌>>=◌, whole}
use Rattle.dwarf_frame_rows.specs.declared.base_addresses.BaseAddresses.{BaseAddresses}
use Rattle.dwarf_frame_rows.specs.FrameSection.{FrameSection}
use Rattle.dwarf_call_frames.specs.Header.{Header, header_at}
use Rattle.dwarf_call_frames.specs.HeaderEntries.{named_offset}
use Rattle.dwarf_call_frames.specs.HeaderTable.{header_with_table}
use Rattle.framehop_index.specs.EntryFor.{indexed_entry}

-- the header of these bytes: numbers are little-endian, and addresses have 8 bytes
abbrev pub eh_frame_hdr_of : BaseAddresses → List ℕ → Result Header Error
eh_frame_hdr_of bases bytes = header_at bases.eh_frame_hdr 8 (whole false bytes)

-- the header of a section, if there are bytes for it and they parse
abbrev pub parsed_header : BaseAddresses → Option (List ℕ) → Option Header
parsed_header bases None = None
parsed_header bases (Some bytes) = result_ok (eh_frame_hdr_of bases bytes)

-- the offset that a table names for an address, if it has 32 bits
abbrev pub offset_in_table : BaseAddresses → Header → (address : ℕ) → Result ℕ Error
offset_in_table bases table address = do
  offset ← named_offset (2 ^ 64) bases table address
  offset_below (2 ^ 32) offset

-- the offset that the table of a header names
abbrev pub headed_offset : BaseAddresses → Header → (address : ℕ) → Result ℕ Error
headed_offset bases header address = do
  table ← ok_or (header_with_table header) NoUnwindInfoForAddress
  offset_in_table bases table address

-- the offset that it names for an address relative to a base, if there is a header, and the address has 64 bits
abbrev pub found_by_header : BaseAddresses → Option Header → (base relative : ℕ) → Option ℕ
found_by_header bases None base relative = None
found_by_header bases (Some header) base relative =
    if nat_lt (base + relative) (2 ^ 64) then result_ok (headed_offset bases header (base + relative)) else None

-- the offset of the FDE that the index of a section has
abbrev pub found_by_index : FrameSection → (base relative : ℕ) → Option ℕ
found_by_index section base relative = option_map (λ fde. fde.head.offset) (indexed_entry base relative section)
