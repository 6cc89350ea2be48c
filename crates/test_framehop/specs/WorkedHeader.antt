-- A section `.eh_frame` byte by byte, with a header that says where its FDEs are.
use Rattle.std.specs.Prelude.{ℕ, List, [], ◌∷◌, Some, None}
use Rattle.dwarf_frame_rows.specs.declared.base_addresses.BaseAddresses.{BaseAddresses}
use Rattle.framehop.specs.TruthfulLookups.{HeadedSection}

-- a CIE, an FDE of sixteen bytes of code from 0x1000 on, one of the sixteen bytes before these, and a length of 0
unfoldable pub section_bytes : List ℕ
section_bytes =
    16 ∷ 0 ∷ 0 ∷ 0 ∷ 0 ∷ 0 ∷ 0 ∷ 0 ∷ 1 ∷ 0 ∷ 1 ∷ 120 ∷ 16 ∷ 12 ∷ 7 ∷ 8 ∷ 144 ∷ 1 ∷ 0 ∷ 0
    ∷ 28 ∷ 0 ∷ 0 ∷ 0 ∷ 24 ∷ 0 ∷ 0 ∷ 0 ∷ 0 ∷ 16 ∷ 0 ∷ 0 ∷ 0 ∷ 0 ∷ 0 ∷ 0 ∷ 16 ∷ 0 ∷ 0 ∷ 0 ∷ 0 ∷ 0 ∷ 0 ∷ 0 ∷ 65 ∷ 14 ∷ 16 ∷ 134 ∷ 2 ∷ 67 ∷ 13 ∷ 6
    ∷ 20 ∷ 0 ∷ 0 ∷ 0 ∷ 56 ∷ 0 ∷ 0 ∷ 0 ∷ 240 ∷ 15 ∷ 0 ∷ 0 ∷ 0 ∷ 0 ∷ 0 ∷ 0 ∷ 16 ∷ 0 ∷ 0 ∷ 0 ∷ 0 ∷ 0 ∷ 0 ∷ 0
    ∷ 0 ∷ 0 ∷ 0 ∷ 0 ∷ []

-- the section is at 0x200, and the table has two rows, relative to the header: 0xff0 with 0x234, and 0x1000 with 0x214
unfoldable pub header_bytes : List ℕ
header_bytes =
    1 ∷ 3 ∷ 3 ∷ 59 ∷ 0 ∷ 2 ∷ 0 ∷ 0 ∷ 2 ∷ 0 ∷ 0 ∷ 0
    ∷ 240 ∷ 12 ∷ 0 ∷ 0 ∷ 52 ∷ 255 ∷ 255 ∷ 255
    ∷ 0 ∷ 13 ∷ 0 ∷ 0 ∷ 20 ∷ 255 ∷ 255 ∷ 255 ∷ []

-- the section is at 0x200, and the header at 0x300
unfoldable pub worked_bases : BaseAddresses
worked_bases = record {
  eh_frame_hdr = record { section = Some 0x300; text = None; data_base = Some 0x300 };
  eh_frame = record { section = Some 0x200; text = None; data_base = None };
}

-- the section with its header
abbrev pub worked_header : HeadedSection
worked_header = record { section = section_bytes; header = header_bytes; bases = worked_bases; base = 0 }
