-- Pointers of call frame information (LSB 5.0, 10.5). An encoding, one byte, says how a value is written (its format), what the
-- value is relative to (its application), and whether the sum is the address that is meant or the address of memory that has it.
use Rattle.std.specs.Prelude.{ℕ, ◌+◌, ◌-◌, ◌*◌, ◌%◌, ◌^◌, ℤ, ◌==◌, ◌||◌, not, nat_lt, if◌then◌else◌, Bool, Option, Result, Ok, Err, is_ok}
use Rattle.std.specs.Int.{w16, w32, w64, cast_unsigned}
use Rattle.std.specs.List.{list_any}
use Rattle.std.specs.Option.{ok_or}
use Rattle.dwarf_constants.specs.Pointer.{application_of, format_of, valid_encodings}
use Rattle.dwarf_constants.specs.declared.constants.TheConstants.{DW_EH_PE_absptr, DW_EH_PE_uleb128, DW_EH_PE_udata2, DW_EH_PE_udata4, DW_EH_PE_udata8, DW_EH_PE_sleb128, DW_EH_PE_sdata2, DW_EH_PE_sdata4, DW_EH_PE_sdata8, DW_EH_PE_pcrel, DW_EH_PE_textrel, DW_EH_PE_datarel, DW_EH_PE_funcrel, DW_EH_PE_indirect, DW_EH_PE_omit}
use Rattle.dwarf_constants.specs.declared.error.Error.{Error}
use Rattle.dwarf_constants.specs.declared.error.Error.TheVariants.{CannotParseOmitPointerEncoding, DataRelativePointerButDataBaseIsUndefined, FuncRelativePointerInBadContext, PcRelativePointerButSectionBaseIsUndefined, TextRelativePointerButTextBaseIsUndefined, UnknownPointerEncoding, UnsupportedAddressSize, UnsupportedPointerEncoding}
use Rattle.dwarf_readers.specs.InitialLength.{address_at, is_size}
use Rattle.dwarf_readers.specs.Leb128.{left_by_leb128, signed_at, unsigned_at}
use Rattle.dwarf_readers.specs.Stretch.{Stretch, ◌>>=◌, byte_at, number_at, requirement, signed_number_at}
use Rattle.dwarf_frame_rows.specs.declared.base_addresses.SectionBaseAddresses.{SectionBaseAddresses}
use Rattle.dwarf_frame_rows.specs.declared.pointer.Pointer.{Pointer}
use Rattle.dwarf_frame_rows.specs.declared.pointer.Pointer.TheVariants.{Direct, Indirect}
use Rattle.dwarf_frame_rows.specs.declared.pointer.PointerEncodingParameters.{PointerEncodingParameters}

-- ---- encodings

-- the byte is an encoding: omit, or a listed format with a listed application, direct or indirect
unfoldable pub is_encoding : ℕ → Bool
is_encoding byte = list_any (λ encoding. byte == encoding) valid_encodings

-- a byte that is an encoding
abbrev pub known_encoding : ℕ → Result (Unit {0}) Error
known_encoding byte = requirement (is_encoding byte) (UnknownPointerEncoding (record { 0 = byte }))

-- an encoding, one byte
abbrev pub encoding_at : Stretch → Result (ℕ × Stretch) Error
encoding_at s = do
  encoding ← byte_at s
  _ ← known_encoding encoding.0
  Ok encoding

-- the encoding of a pointer that is there: omit says that none is
abbrev pub taken_encoding : ℕ → Result (Unit {0}) Error
taken_encoding encoding = do
  _ ← known_encoding encoding
  requirement (not (encoding == DW_EH_PE_omit.0)) CannotParseOmitPointerEncoding

-- ---- formats

-- a signed number in two's complement of 64 bits
abbrev pub as_unsigned : ℤ × Stretch → Result (ℕ × Stretch) Error
as_unsigned read = Ok (cast_unsigned w64 read.0, read.1)

-- the value in a format; absptr is a whole address, of this size in bytes
abbrev pub value_at : ℕ → ℕ → Stretch → Result (ℕ × Stretch) Error
value_at address_size format s =
    if format == DW_EH_PE_absptr.0 then address_at address_size s
    else if format == DW_EH_PE_uleb128.0 then unsigned_at s
    else if format == DW_EH_PE_udata2.0 then number_at 2 s
    else if format == DW_EH_PE_udata4.0 then number_at 4 s
    else if format == DW_EH_PE_udata8.0 then number_at 8 s
    else if format == DW_EH_PE_sleb128.0 then signed_at s >>= as_unsigned
    else if format == DW_EH_PE_sdata2.0 then signed_number_at w16 s >>= as_unsigned
    else if format == DW_EH_PE_sdata4.0 then signed_number_at w32 s >>= as_unsigned
    else if format == DW_EH_PE_sdata8.0 then signed_number_at w64 s >>= as_unsigned
    else Err (UnknownPointerEncoding (record { 0 = format }))

-- what a value that cannot be read leaves: a number of variable length is passed over up to the byte that decides
abbrev pub left_by_value : ℕ → Stretch → Stretch
left_by_value format s =
    if format == DW_EH_PE_uleb128.0 || format == DW_EH_PE_sleb128.0 then left_by_leb128 10 s else s

-- the value of a pointer of this encoding, relative to 0
abbrev pub plain_value_at : ℕ → ℕ → Stretch → Result (ℕ × Stretch) Error
plain_value_at address_size encoding s = do
  _ ← taken_encoding encoding
  value_at address_size (format_of encoding) s

-- what such a value leaves that cannot be read
abbrev pub left_by_plain_value : ℕ → Stretch → Stretch
left_by_plain_value encoding s = if is_ok (taken_encoding encoding) then left_by_value (format_of encoding) s else s

-- ---- applications

-- what pointers may be relative to: the addresses that are known, the start of the function that they are about, and the offset
-- of the section's first byte; and the size of an address in bytes
pub record Origins : Type 0 where
  pub bases : SectionBaseAddresses
  pub function : Option ℕ
  pub section_place : ℕ
  pub address_size : ℕ

-- the address of an offset, in a section that starts at this address
abbrev pub address_at_place : Origins → ℕ → ℕ → ℕ
address_at_place origins start place = (start + (place - origins.section_place)) % 2 ^ 64

-- what a pointer at this offset is relative to, by its application: pcrel to the pointer's own address
abbrev pub base_of : Origins → ℕ → ℕ → Result ℕ Error
base_of origins application place =
    if application == DW_EH_PE_absptr.0 then Ok 0
    else if application == DW_EH_PE_pcrel.0 then (do
      start ← ok_or origins.bases.section PcRelativePointerButSectionBaseIsUndefined
      Ok (address_at_place origins start place))
    else if application == DW_EH_PE_textrel.0 then ok_or origins.bases.text TextRelativePointerButTextBaseIsUndefined
    else if application == DW_EH_PE_datarel.0 then ok_or origins.bases.data_base DataRelativePointerButDataBaseIsUndefined
    else if application == DW_EH_PE_funcrel.0 then ok_or origins.function FuncRelativePointerInBadContext
    else Err UnsupportedPointerEncoding

-- what a pointer of this encoding at this offset is relative to; addresses have to have one of their sizes
abbrev pub origin_of : Origins → ℕ → ℕ → Result ℕ Error
origin_of origins encoding place = do
  _ ← taken_encoding encoding
  base ← base_of origins (application_of encoding) place
  _ ← requirement (is_size origins.address_size) (UnsupportedAddressSize origins.address_size)
  Ok base

-- ---- pointers

-- the number in as many bits as an address has
abbrev pub in_address_size : ℕ → ℕ → ℕ
in_address_size address_size n = n % 2 ^ (8 * address_size)

-- the pointer to an address; bit 7 of an encoding says that it is indirect
abbrev pub pointer_of : ℕ → ℕ → Pointer
pointer_of encoding address = if nat_lt encoding DW_EH_PE_indirect.0 then Direct address else Indirect address

-- the pointer at the start: what it is relative to is found first, then the value is read; the sum has as many bits as an address
abbrev pub pointer_at : Origins → ℕ → Stretch → Result (Pointer × Stretch) Error
pointer_at origins encoding s = do
  base ← origin_of origins encoding s.offset
  value ← value_at origins.address_size (format_of encoding) s
  Ok (pointer_of encoding (in_address_size origins.address_size (base + value.0)), value.1)

-- what a pointer that cannot be read leaves
abbrev pub left_by_pointer : Origins → ℕ → Stretch → Stretch
left_by_pointer origins encoding s =
    if is_ok (origin_of origins encoding s.offset) then left_by_value (format_of encoding) s else s

-- the address of a pointer of either kind
abbrev pub pointer_address : Pointer → ℕ
pointer_address (Direct address) = address
pointer_address (Indirect address) = address

-- the address that is meant, if the pointer says it
abbrev pub direct_address : Pointer → Result ℕ Error
direct_address (Direct address) = Ok address
direct_address (Indirect address) = Err UnsupportedPointerEncoding

-- ---- the code's parameters

-- the origins of the code's parameters
abbrev pub origins_of : {R : Type 0} → (R → Stretch) → PointerEncodingParameters R → Origins
origins_of stretch p = record {
  bases = p.bases.now;
  function = p.func_base;
  section_place = (stretch p.section.now).offset;
  address_size = p.address_size;
}
