-- What the sections of call frames differ in (DWARF 5, 6.4.1; LSB 5.0, 10.6.1).
use Rattle.std.specs.Prelude.{ℕ, Bool, Option}
use Rattle.dwarf_constants.specs.declared.common.Format.{Format}
use Rattle.dwarf_frame_rows.specs.declared.section.CieOffsetEncoding.{CieOffsetEncoding}

-- a kind of section
pub record FrameSectionKind : Type 0 where
  -- a length of 0 ends the section
  pub ends_at_zero : Bool
  -- the id, of an entry of this format, says that the entry is a CIE
  pub is_cie : Format → ℕ → Bool
  -- how wide the id is
  pub id_width : Format → CieOffsetEncoding
  -- the offset of an FDE's CIE, by the offset of the FDE's id and the id itself
  pub cie_place : ℕ → ℕ → Option ℕ
  -- CIEs of this version say the sizes of addresses and of segments
  pub has_sizes : ℕ → Bool
