-- The section `.eh_frame_hdr`: where `.eh_frame` starts, and how the table of its FDEs is written (LSB 5.0, 10.6.2).
use Rattle.std.specs.Prelude.{ℕ, ◌-◌, ◌==◌, ◌||◌, None, Result, Ok, nat_le, if◌then◌else◌}
use Rattle.dwarf_constants.specs.Pointer.{format_of}
use Rattle.dwarf_constants.specs.declared.constants.TheConstants.{DW_EH_PE_omit}
use Rattle.dwarf_constants.specs.declared.error.Error.{Error}
use Rattle.dwarf_constants.specs.declared.error.Error.TheVariants.{OffsetOutOfBounds, UnknownVersion, UnsupportedPointerEncoding}
use Rattle.dwarf_endianity.specs.Offset.{offset_below}
use Rattle.dwarf_readers.specs.Stretch.{Stretch, ◌>>=◌, byte_at, requirement}
use Rattle.dwarf_frame_rows.specs.EncodedPointer.{Origins, direct_address, encoding_at, plain_value_at, pointer_at}
use Rattle.dwarf_frame_rows.specs.declared.base_addresses.SectionBaseAddresses.{SectionBaseAddresses}
use Rattle.dwarf_frame_rows.specs.declared.pointer.Pointer.{Pointer}

-- a header: the pointer to the start of `.eh_frame`, the encoding of its table, the number of rows, and the bytes from the first
-- row on. It is read by the offset of the section's first byte and the size of an address in bytes.
pub record Header : Type 0 where
  pub section_offset : ℕ
  pub address_size : ℕ
  pub eh_frame_ptr : Pointer
  pub table_encoding : ℕ
  pub count : ℕ
  pub rows : Stretch

-- what the pointers of a header may be relative to, which is no function
abbrev pub origins_of_header : SectionBaseAddresses → ℕ → ℕ → Origins
origins_of_header bases section_offset address_size =
    record { bases = bases; function = None; section_place = section_offset; address_size = address_size }

-- the number of rows, encoded as a plain number; 0 if the number or the table is omitted
abbrev pub count_at : ℕ → ℕ → ℕ → Stretch → Result (ℕ × Stretch) Error
count_at address_size encoding table_encoding s =
    if encoding == DW_EH_PE_omit.0 || table_encoding == DW_EH_PE_omit.0 then Ok (0, s) else (do
      _ ← requirement (encoding == format_of encoding) UnsupportedPointerEncoding
      plain_value_at address_size encoding s)

-- a header by its bytes: version 1, the encodings of the pointer to `.eh_frame`, of the number of rows and of the table, and
-- these three
abbrev pub header_at : SectionBaseAddresses → ℕ → Stretch → Result Header Error
header_at bases address_size s = do
  version ← byte_at s
  _ ← requirement (version.0 == 1) (UnknownVersion version.0)
  pointer_encoding ← encoding_at version.1
  count_encoding ← encoding_at pointer_encoding.1
  table_encoding ← encoding_at count_encoding.1
  pointer ← pointer_at (origins_of_header bases s.offset address_size) pointer_encoding.0 table_encoding.1
  count ← count_at address_size count_encoding.0 table_encoding.0 pointer.1
  Ok (record {
    section_offset = s.offset;
    address_size = address_size;
    eh_frame_ptr = pointer.0;
    table_encoding = table_encoding.0;
    count = count.0;
    rows = count.1;
  })

-- the offset from the start of `.eh_frame` of what a pointer points at
abbrev pub offset_of_pointer : ℕ → Header → Pointer → Result ℕ Error
offset_of_pointer limit header pointer = do
  address ← direct_address pointer
  start ← direct_address header.eh_frame_ptr
  _ ← requirement (nat_le start address) OffsetOutOfBounds
  offset_below limit (address - start)
