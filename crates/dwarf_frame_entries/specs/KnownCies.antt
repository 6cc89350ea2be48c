-- CIEs that are kept once they were read in a section.
use Rattle.std.specs.Prelude.{ℕ, Option, Result, IfSome}
use Rattle.std.specs.BTreeMap.{BTreeMap}
use Rattle.dwarf_constants.specs.declared.error.Error.{Error}
use Rattle.dwarf_readers.specs.Stretch.{Stretch}
use Rattle.dwarf_frame_rows.specs.FrameSection.{FrameSection}
use Rattle.dwarf_frame_entries.specs.Entries.{cie_from_offset}
use Rattle.dwarf_frame_entries.specs.EntryViews.{GivesCie}
use Rattle.dwarf_frame_entries.specs.Kept.{EachKept}
use Rattle.dwarf_frame_entries.specs.declared.cie.CommonInformationEntry.{CommonInformationEntry}
use Rattle.dwarf_frame_entries.specs.declared.known_cies.ReadCie.{ReadCie}

module _ {R E O : Type 0} (stretch : R → Stretch) (value : O → ℕ) (section : FrameSection) where
  -- What was read at an offset of the section is the CIE there, or why there is none.
  abbrev pub IsReadAt : (offset : ℕ) → Result (CommonInformationEntry R E O) Error → Type 0
  IsReadAt offset read = GivesCie stretch value read (cie_from_offset section offset)

  -- So was what is kept by its offset, and what was asked for last.
  pub record AreReadIn (last : Option (ReadCie R E O)) (read : BTreeMap ℕ (Result (CommonInformationEntry R E O) Error)) : Type 0 where
    pub asked : IfSome last (λ last. IsReadAt last.offset last.cie)
    pub kept : EachKept IsReadAt read
