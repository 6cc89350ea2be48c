-- What is known of the own instructions of CIEs, by the columns of an architecture.
use Rattle.dwarf_constants.specs.declared.common.Register.{Register}
use Rattle.dwarf_constants.specs.declared.common.Vendor.{Vendor}
use Rattle.dwarf_frame_rows.specs.Effects.{Limits}
use Rattle.dwarf_frame_rows.specs.FrameSection.{FrameSection}
use Rattle.dwarf_frame_entries.specs.Entries.{Fde}
use Rattle.dwarf_frame_entries.specs.EntryPrograms.{fde_program}
use Rattle.dwarf_frame_parts.specs.declared.left.LeftByCie.{LeftByCie}
use Rattle.dwarf_cie_rows.specs.OwnRows.{HasRoomFor, HoldsBy}
use Rattle.dwarf_cie_rows.specs.declared.own_rows.KnownRows.{KnownRows}

-- What is known of CIEs while a table is made, where these registers are kept, is so.
abbrev pub Holds : (fp ra : Register) → Limits → FrameSection → Vendor → KnownRows → Type 0
Holds fp ra limits section vendor known = HoldsBy (record { fp = fp; ra = ra }) limits section vendor known

-- The same of the program of an FDE, by the columns of an architecture: of its frame pointer and its return address.
abbrev pub FitsFde : (fp ra : Register) → Limits → FrameSection → Vendor → Fde → LeftByCie → Type 0
FitsFde fp ra limits section vendor fde = HasRoomFor (record { fp = fp; ra = ra }) limits (fde_program section vendor fde)
