-- Sections of call frames: `.eh_frame` (LSB 5.0, 10.6.1) and `.debug_frame` (DWARF 5, 6.4.1).
use Rattle.std.specs.Prelude.{ℕ, ◌-◌, ◌==◌, true, false, Bool, Option, Some, None, nat_le, if◌then◌else◌}
use Rattle.dwarf_constants.specs.declared.common.Format.{Format}
use Rattle.dwarf_constants.specs.declared.common.Format.TheVariants.{Dwarf32, Dwarf64}
use Rattle.dwarf_constants.specs.declared.common.Vendor.{Vendor}
use Rattle.dwarf_constants.specs.declared.common.Vendor.TheVariants.{Default}
use Rattle.dwarf_frame_rows.specs.SectionKind.{FrameSectionKind}
use Rattle.dwarf_frame_rows.specs.declared.section.CieOffsetEncoding.{CieOffsetEncoding}
use Rattle.dwarf_frame_rows.specs.declared.section.CieOffsetEncoding.TheVariants.{U32, U64}

-- what a value of either section has: a reader of the section from its start on, the size of an address in bytes, if no CIE says
-- it, and whose instructions are read
pub record FrameData (R : Type 0) : Type 0 where
  pub reader : R
  pub address_size : ℕ
  pub vendor : Vendor

-- a section of which only the reader is given: addresses have 8 bytes, and no vendor's instructions are read
abbrev pub plain_data : {R : Type 0} → R → FrameData R
plain_data reader = record { reader = reader; address_size = 8; vendor = Default }

-- ---- the two kinds

-- `.eh_frame`: a length of 0 ends it; the id has four bytes, and is 0 in a CIE, or else the distance back to the FDE's CIE
abbrev pub eh_frame : FrameSectionKind
eh_frame = record {
  ends_at_zero = true;
  is_cie = λ format id. id == 0;
  id_width = λ format. U32;
  cie_place = λ place id. if nat_le id place then Some (place - id) else None;
  has_sizes = λ version. false;
}

-- all bits of a word are set
abbrev pub is_all_ones : Format → ℕ → Bool
is_all_ones Dwarf32 word = word == 0xffff_ffff
is_all_ones Dwarf64 word = word == 0xffff_ffff_ffff_ffff

-- a word is as wide as the format says
abbrev pub word_width : Format → CieOffsetEncoding
word_width Dwarf32 = U32
word_width Dwarf64 = U64

-- `.debug_frame`: a length of 0 is passed over; the id is a word, all ones in a CIE, or else the offset of the FDE's CIE; CIEs of
-- version 4 say the sizes of addresses and of segments
abbrev pub debug_frame : FrameSectionKind
debug_frame = record {
  ends_at_zero = false;
  is_cie = is_all_ones;
  id_width = word_width;
  cie_place = λ place id. Some id;
  has_sizes = λ version. version == 4;
}
