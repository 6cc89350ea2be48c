-- The list of FDEs, computed of a section whose function pushes and sets a frame pointer.
use Rattle.std.proofs.Common.{◌≡◌, ℕ, ◌^◌, List, [], ◌∷◌, None, false, refl}
use Rattle.dwarf_readers.specs.Stretch.{whole}
use Rattle.dwarf_frame_rows.specs.declared.base_addresses.BaseAddresses.{BaseAddresses}
use Rattle.dwarf_frame_rows.specs.FrameSection.{FrameSection, frame_section}
use Rattle.dwarf_frame_sections.specs.Sections.{eh_frame}
use Rattle.dwarf_frame_entries.specs.Entries.{Fde}
use Rattle.dwarf_frame_entries.specs.EntryLists.{entries_from}
use Rattle.dwarf_frame_entries.specs.SectionFdes.{whole_fdes}

bytes : List ℕ
bytes = 16 ∷ 0 ∷ 0 ∷ 0 ∷ 0 ∷ 0 ∷ 0 ∷ 0 ∷ 1 ∷ 0 ∷ 1 ∷ 120 ∷ 16 ∷ 12 ∷ 7 ∷ 8 ∷ 144 ∷ 1 ∷ 0 ∷ 0 ∷ 28 ∷ 0 ∷ 0 ∷ 0 ∷ 24 ∷ 0 ∷ 0 ∷ 0 ∷ 0 ∷ 16 ∷ 0 ∷ 0 ∷ 0 ∷ 0 ∷ 0 ∷ 0 ∷ 16 ∷ 0 ∷ 0 ∷ 0 ∷ 0 ∷ 0 ∷ 0 ∷ 0 ∷ 65 ∷ 14 ∷ 16 ∷ 134 ∷ 2 ∷ 67 ∷ 13 ∷ 6 ∷ 0 ∷ 0 ∷ 0 ∷ 0 ∷ []

-- no address that pointers count from is known
unknown : BaseAddresses
unknown = record {
  eh_frame_hdr = record { section = None; text = None; data_base = None };
  eh_frame = record { section = None; text = None; data_base = None };
}

section : FrameSection
unfolding bytes unknown
section = frame_section (2 ^ 64) eh_frame 8 (whole false bytes) unknown

starts : List Fde → List ℕ
starts [] = []
starts (fde ∷ fdes) = fde.initial_address ∷ fde.head.offset ∷ starts fdes

one_fde : starts (whole_fdes section) ≡ 0x1000 ∷ 0x14 ∷ []
unfolding section bytes unknown starts entries_from whole_fdes
one_fde = refl
