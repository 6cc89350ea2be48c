-- The entries of a section of call frames (DWARF 5, 6.4.1; LSB 5.0, 10.6.1): FDEs, each of which says how a range of code is
-- unwound, and CIEs, which say what several FDEs have in common.
use Rattle.std.specs.Prelude.{ℕ, ◌+◌, ◌-◌, ◌==◌, ◌||◌, ◌&&◌, ℤ, Bool, Option, Some, None, Result, Ok, Err, nat_lt, nat_le, if◌then◌else◌}
use Rattle.std.specs.Option.{ok_or}
use Rattle.dwarf_constants.specs.declared.common.Format.{Format}
use Rattle.dwarf_constants.specs.declared.common.Register.{Register}
use Rattle.dwarf_constants.specs.declared.constants.DwEhPe.{DwEhPe}
use Rattle.dwarf_constants.specs.declared.error.Error.{Error}
use Rattle.dwarf_constants.specs.declared.error.Error.TheVariants.{NoEntryAtGivenOffset, NotCieId, NotCiePointer, OffsetOutOfBounds, UnknownVersion, UnsupportedSegmentSize}
use Rattle.dwarf_readers.specs.InitialLength.{address_at, address_size_at, initial_length_at}
use Rattle.dwarf_readers.specs.Leb128.{signed_at, unsigned_16_at, unsigned_at}
use Rattle.dwarf_endianity.specs.Offset.{offset_below}
use Rattle.dwarf_readers.specs.Stretch.{Stretch, ◌>>=◌, behind_at, byte_at, number_at, requirement, split_at, string_at}
use Rattle.dwarf_frame_rows.specs.EncodedPointer.{Origins, pointer_address, in_address_size, plain_value_at, pointer_at}
use Rattle.dwarf_frame_rows.specs.SectionKind.{FrameSectionKind}
use Rattle.dwarf_frame_rows.specs.declared.pointer.Pointer.{Pointer}
use Rattle.dwarf_frame_rows.specs.declared.section.CieOffsetEncoding.{CieOffsetEncoding}
use Rattle.dwarf_frame_rows.specs.declared.section.CieOffsetEncoding.TheVariants.{U32, U64}
use Rattle.dwarf_frame_entries.specs.Augmentations.{augmentation_at, data_at}
use Rattle.dwarf_frame_rows.specs.FrameSection.{FrameSection, SectionContents, origins_in}
use Rattle.dwarf_frame_entries.specs.declared.augmentation.Augmentation.{Augmentation}
use Rattle.dwarf_frame_entries.specs.declared.entries.Entry.{Entry}
use Rattle.dwarf_frame_entries.specs.declared.entries.Entry.TheVariants as which

-- what entries of both kinds have: their offset in the section, and the length that they begin with
pub record Head : Type 0 where
  pub offset : ℕ
  pub length : ℕ

-- a common information entry (DWARF 5, 6.4.1); the format is that of its length
pub record Cie : Type 0 where
  pub head : Head
  pub format : Format
  pub version : ℕ
  pub address_size : ℕ
  pub augmentation : Option Augmentation
  pub code_alignment_factor : ℕ
  pub data_alignment_factor : ℤ
  pub return_address_register : Register
  pub instructions : Stretch

-- a frame description entry whose CIE isn't read yet: the CIE's offset, the section's data, and the bytes from the initial
-- location on
pub record PartialFde : Type 0 where
  pub head : Head
  pub cie_offset : ℕ
  pub within : SectionContents
  pub rest : Stretch

-- a frame description entry (DWARF 5, 6.4.1): the range of its code, the pointer to language-specific data, and its own
-- instructions
pub record Fde : Type 0 where
  pub head : Head
  pub cie : Cie
  pub initial_address : ℕ
  pub address_range : ℕ
  pub lsda : Option Pointer
  pub instructions : Stretch

-- an entry of either kind
abbrev pub AnyEntry : Type 0
AnyEntry = Entry Cie PartialFde

-- the offset of a stretch from the section's start
abbrev pub offset_in : FrameSection → Stretch → ℕ
offset_in section s = s.offset - section.within.bytes.offset

-- ---- common information entries (DWARF 5, 6.4.1; LSB 5.0, 10.6.1.1.1)

-- the versions of CIEs
abbrev pub is_version : ℕ → Bool
is_version version = version == 1 || version == 3 || version == 4

-- the size of an address: the CIE's own, which a segment selector size of 0 follows, if CIEs of this version have these fields,
-- or else this one
abbrev pub sizes_at : FrameSectionKind → ℕ → ℕ → Stretch → Result (ℕ × Stretch) Error
sizes_at kind address_size version s =
    if kind.has_sizes version then (do
      size ← address_size_at s
      segment ← byte_at size.1
      _ ← requirement (segment.0 == 0) UnsupportedSegmentSize
      Ok (size.0, segment.1))
    else Ok (address_size, s)

-- the return address register: a byte in version 1, and then an unsigned LEB128
abbrev pub return_register_at : ℕ → Stretch → Result (ℕ × Stretch) Error
return_register_at version s = if version == 1 then byte_at s else unsigned_16_at s

-- a CIE from its version on
abbrev pub cie_at : FrameSection → Head → Format → Stretch → Result Cie Error
cie_at section head format s = do
  version ← byte_at s
  _ ← requirement (is_version version.0) (UnknownVersion version.0)
  text ← string_at version.1
  size ← sizes_at section.kind section.within.address_size version.0 text.1
  code ← unsigned_at size.1
  factor ← signed_at code.1
  register ← return_register_at version.0 factor.1
  augmentation ← augmentation_at section.limit (origins_in section.within size.0 None) text.0.bytes register.1
  Ok (record {
    head = head;
    format = format;
    version = version.0;
    address_size = size.0;
    augmentation = augmentation.0;
    code_alignment_factor = code.0;
    data_alignment_factor = factor.0;
    return_address_register = record { 0 = register.0 };
    instructions = augmentation.1;
  })

-- ---- entries of both kinds

-- an id of this width
abbrev pub id_at : CieOffsetEncoding → Stretch → Result (ℕ × Stretch) Error
id_at U32 s = number_at 4 s
id_at U64 s = number_at 8 s

-- an FDE from its id on, the CIE pointer, whose offset is `place`: it gives the offset of the CIE
abbrev pub partial_at : FrameSection → Head → ℕ → ℕ × Stretch → Result PartialFde Error
partial_at section head place id = do
  pointer ← offset_below section.limit id.0
  cie_offset ← ok_or (section.kind.cie_place place pointer) OffsetOutOfBounds
  Ok (record { head = head; cie_offset = cie_offset; within = section.within; rest = id.1 })

-- an entry from its id on, which tells CIEs from FDEs
abbrev pub entry_within : FrameSection → Head → Format → Stretch → Result AnyEntry Error
entry_within section head format s = do
  id ← id_at (section.kind.id_width format) s
  if section.kind.is_cie format id.0 then (do
    cie ← cie_at section head format id.1
    Ok (which.Cie cie)) else (do
      partial ← partial_at section head (offset_in section s) id
      Ok (which.Fde partial))

-- the first entry, or none at a length of 0, and what is left after it
abbrev pub entry_at : FrameSection → Stretch → Result (Option AnyEntry × Stretch) Error
entry_at section s = do
  length ← initial_length_at section.limit s
  if length.0.0 == 0 then Ok (None, length.1) else (do
    parts ← split_at length.0.0 length.1
    entry ← entry_within section (record { offset = offset_in section s; length = length.0.0 }) length.0.1 parts.0
    Ok (Some entry, parts.1))

-- ---- entries at an offset

-- an entry that has to be a CIE
abbrev pub cie_among : ℕ → Option AnyEntry → Result Cie Error
cie_among offset None = Err NoEntryAtGivenOffset
cie_among offset (Some (which.Cie cie)) = Ok cie
cie_among offset (Some (which.Fde partial)) = Err (NotCieId offset)

-- the CIE at an offset of the section
abbrev pub cie_from_offset : FrameSection → ℕ → Result Cie Error
cie_from_offset section offset = do
  rest ← behind_at offset section.within.bytes
  entry ← entry_at section rest
  cie_among offset entry.0

-- an entry that has to be an FDE
abbrev pub partial_among : ℕ → Option AnyEntry → Result PartialFde Error
partial_among offset None = Err NoEntryAtGivenOffset
partial_among offset (Some (which.Cie cie)) = Err (NotCiePointer offset)
partial_among offset (Some (which.Fde partial)) = Ok partial

-- the FDE at an offset of the section, without its CIE
abbrev pub partial_fde_from_offset : FrameSection → ℕ → Result PartialFde Error
partial_fde_from_offset section offset = do
  rest ← behind_at offset section.within.bytes
  entry ← entry_at section rest
  partial_among offset entry.0

-- ---- frame description entries (DWARF 5, 6.4.1; LSB 5.0, 10.6.1.1.2)

-- a part of an augmentation, if there is one
abbrev pub part_of : {A : Type 0} → (Augmentation → Option A) → Option Augmentation → Option A
part_of part None = None
part_of part (Some augmentation) = part augmentation

-- the encoding of an FDE's addresses, if its CIE says one
abbrev pub address_encoding : Cie → Option DwEhPe
address_encoding cie = part_of (λ augmentation. augmentation.fde_address_encoding) cie.augmentation

-- the first address of the code and its size in bytes: two addresses, or, if the CIE says an encoding, a pointer and a value of
-- its format
abbrev pub code_range_at : Origins → Option DwEhPe → Stretch → Result ((ℕ × ℕ) × Stretch) Error
code_range_at origins None s = do
  initial ← address_at origins.address_size s
  range ← address_at origins.address_size initial.1
  Ok ((initial.0, range.0), range.1)
code_range_at origins (Some encoding) s = do
  initial ← pointer_at origins encoding.0 s
  range ← plain_value_at origins.address_size encoding.0 initial.1
  Ok ((pointer_address initial.0, range.0), range.1)

-- the pointer to language-specific data, if the CIE says an encoding for it
abbrev pub lsda_within : Origins → Option DwEhPe → Stretch → Result (Option Pointer) Error
lsda_within origins None s = Ok None
lsda_within origins (Some encoding) s = do
  pointer ← pointer_at origins encoding.0 s
  Ok (Some pointer.0)

-- the pointer to language-specific data in an FDE's augmentation data, which the FDE has if its CIE's augmentation does
abbrev pub lsda_at : ℕ → Origins → Option Augmentation → Stretch → Result (Option Pointer × Stretch) Error
lsda_at limit origins None s = Ok (None, s)
lsda_at limit origins (Some augmentation) s =
    if augmentation.has_data then (do
      extra ← data_at limit s
      lsda ← lsda_within origins augmentation.lsda extra.0
      Ok (lsda, extra.1))
    else Ok (None, s)

-- an FDE by its CIE
abbrev pub fde_with : ℕ → PartialFde → Cie → Result Fde Error
fde_with limit partial cie = do
  addresses ← code_range_at (origins_in partial.within cie.address_size None) (address_encoding cie) partial.rest
  lsda ← lsda_at limit (origins_in partial.within cie.address_size (Some addresses.0.0)) cie.augmentation addresses.1
  Ok (record {
    head = partial.head;
    cie = cie;
    initial_address = addresses.0.0;
    address_range = addresses.0.1;
    lsda = lsda.0;
    instructions = lsda.1;
  })

-- the CIE of an FDE
abbrev pub cie_of : ℕ → FrameSectionKind → PartialFde → Result Cie Error
cie_of limit kind partial = cie_from_offset (record { limit = limit; kind = kind; within = partial.within }) partial.cie_offset

-- an FDE with the CIE that it names
abbrev pub fde_of : ℕ → FrameSectionKind → PartialFde → Result Fde Error
fde_of limit kind partial = do
  cie ← cie_of limit kind partial
  fde_with limit partial cie

-- the FDE that an entry is, or the error of reading it, if it isn't a CIE
abbrev pub fde_of_entry : FrameSection → AnyEntry → Option (Result Fde Error)
fde_of_entry section (which.Cie cie) = None
fde_of_entry section (which.Fde partial) = Some (fde_of section.limit section.kind partial)

-- the FDE at an offset of the section
abbrev pub fde_from_offset : FrameSection → ℕ → Result Fde Error
fde_from_offset section offset = do
  partial ← partial_fde_from_offset section offset
  fde_of section.limit section.kind partial

-- the end of the code, in the size of an address
abbrev pub end_address : Fde → ℕ
end_address fde = in_address_size fde.cie.address_size (fde.initial_address + fde.address_range)

-- the code contains the address
abbrev pub contains : ℕ → Fde → Bool
contains address fde = nat_le fde.initial_address address && nat_lt address (end_address fde)
