-- When the two lookups of an address agree.
use Rattle.std.specs.Prelude.{◌≡◌, ℕ, IsOk}
use Rattle.std.specs.List.{All}
use Rattle.dwarf_frame_rows.specs.FrameSection.{FrameSection}
use Rattle.dwarf_frame_entries.specs.AddressLookups.{fde_for_address, fde_for_address_skipping}
use Rattle.dwarf_frame_entries.specs.SectionFdes.{fdes_of}

-- Each FDE of a section can be read.
abbrev pub AllFdesAreRead : FrameSection → Type 0
AllFdesAreRead section = All IsOk (fdes_of section)

-- The lookup that stops at the first error and the one that passes over FDEs give the same.
abbrev pub LookupsAgree : FrameSection → ℕ → Type 0
LookupsAgree section address = fde_for_address section address ≡ fde_for_address_skipping section address
