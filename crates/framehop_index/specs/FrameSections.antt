-- Sections of call frames by their bytes.
use Rattle.std.specs.Prelude.{ℕ, ◌^◌, List, false}
use Rattle.dwarf_readers.specs.Stretch.{whole}
use Rattle.dwarf_frame_rows.specs.declared.base_addresses.BaseAddresses.{BaseAddresses}
use Rattle.dwarf_frame_rows.specs.FrameSection.{FrameSection, frame_section}
use Rattle.dwarf_frame_sections.specs.Sections.{eh_frame, debug_frame}

-- a section `.eh_frame` of these bytes: numbers are little-endian, addresses and offsets have 8 bytes
abbrev pub eh_frame_of : BaseAddresses → List ℕ → FrameSection
eh_frame_of bases bytes = frame_section (2 ^ 64) eh_frame 8 (whole false bytes) bases

-- a section `.debug_frame` of these bytes: numbers are little-endian, and addresses have 8 bytes unless a CIE says another size
abbrev pub debug_frame_of : BaseAddresses → List ℕ → FrameSection
debug_frame_of bases bytes = frame_section (2 ^ 64) debug_frame 8 (whole false bytes) bases
