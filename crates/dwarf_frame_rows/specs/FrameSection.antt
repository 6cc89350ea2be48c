-- A section of call frames as its entries are read (DWARF 5, 6.4.1; LSB 5.0, 10.6.1).
use Rattle.std.specs.Prelude.{ℕ, Option}
use Rattle.dwarf_readers.specs.Stretch.{Stretch}
use Rattle.dwarf_frame_rows.specs.declared.base_addresses.BaseAddresses.{BaseAddresses}
use Rattle.dwarf_frame_rows.specs.declared.base_addresses.SectionBaseAddresses.{SectionBaseAddresses}
use Rattle.dwarf_frame_rows.specs.EncodedPointer.{Origins}
use Rattle.dwarf_frame_rows.specs.SectionKind.{FrameSectionKind}

-- what an entry is read in: the section's bytes, the size of an address in bytes, if no CIE says it, and the addresses that
-- pointers are relative to
pub record SectionContents : Type 0 where
  pub address_size : ℕ
  pub bytes : Stretch
  pub bases : SectionBaseAddresses

-- a section as its entries are read: what it differs in from other kinds, what the offsets of its reader are below, and its
-- contents
pub record FrameSection : Type 0 where
  pub limit : ℕ
  pub kind : FrameSectionKind
  pub within : SectionContents

-- the contents of a section with these bytes; in either kind of section pointers are relative to the bases of `.eh_frame`
abbrev pub section_data : ℕ → Stretch → BaseAddresses → SectionContents
section_data address_size bytes bases = record { address_size = address_size; bytes = bytes; bases = bases.eh_frame }

-- the section with these bytes
abbrev pub frame_section : ℕ → FrameSectionKind → ℕ → Stretch → BaseAddresses → FrameSection
frame_section limit kind address_size bytes bases =
    record { limit = limit; kind = kind; within = section_data address_size bytes bases }

-- what the pointers of an entry with addresses of this size are relative to, also to the start of a function, if they are about
-- one
abbrev pub origins_in : SectionContents → ℕ → Option ℕ → Origins
origins_in within address_size function =
    record { bases = within.bases; function = function; section_place = within.bytes.offset; address_size = address_size }
