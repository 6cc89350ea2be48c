-- The CIE that was read last.
use Rattle.std.specs.Prelude.{◌≡◌, ℕ, Option, Result, Ok, IfSome}
use Rattle.dwarf_constants.specs.declared.error.Error.{Error}
use Rattle.dwarf_readers.specs.Stretch.{Stretch}
use Rattle.dwarf_frame_rows.specs.FrameSection.{FrameSection}
use Rattle.dwarf_frame_entries.specs.Entries.{cie_from_offset}
use Rattle.dwarf_frame_entries.specs.EntryViews.{GivesCie, cie_view}
use Rattle.dwarf_frame_entries.specs.declared.cie.CommonInformationEntry.{CommonInformationEntry}
use Rattle.framehop_index.specs.declared.last_cie.LastCie.{LastCie}

-- The CIE that is kept, if one is, is that at its offset in the section.
abbrev pub IsLastCie : {R E O : Type 0} → (R → Stretch) → (O → ℕ) → FrameSection → Option (LastCie R E O) → Type 0
IsLastCie stretch value section last = IfSome last (λ last. cie_from_offset section last.offset ≡ Ok (cie_view stretch value last.cie))

-- A call gave the CIE at this offset of a section, or the error of reading it.
abbrev pub GivesCieFrom : {R E O : Type 0} → (R → Stretch) → (O → ℕ) → Result (CommonInformationEntry R E O) Error → FrameSection
    → (offset : ℕ) → Type 0
GivesCieFrom stretch value result section offset = GivesCie stretch value result (cie_from_offset section offset)
