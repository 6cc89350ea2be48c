-- The rows of modules by which steps go that are taken whole.
use Rattle.std.specs.Prelude.{ℕ, ◌+◌, Bool, true, false, Option, Some, None, Result, Ok, Err, if◌then◌else◌}
use Rattle.dwarf_constants.specs.declared.common.Vendor.{Vendor}
use Rattle.dwarf_constants.specs.declared.error.Error.{Error}
use Rattle.dwarf_frame_rows.specs.Effects.{Limits}
use Rattle.dwarf_frame_rows.specs.FrameSection.{FrameSection}
use Rattle.dwarf_frame_rows.specs.Row.{Row}
use Rattle.dwarf_frame_entries.specs.Entries.{Fde}
use Rattle.dwarf_frame_entries.specs.EntryPrograms.{fde_row}
use Rattle.framehop_index.specs.FdeLookups.{FoundFde, PlacedFrames, fde_for, section_of}
use Rattle.framehop_loads.specs.CallFrames.{frames_used}
use Rattle.framehop_loads.specs.UnwindData.{ModuleFormat, UnwindData, CallFrames}
use Rattle.framehop_loads.specs.declared.load_options.Rows.{Rows}
use Rattle.framehop_loads.specs.declared.load_options.Rows.TheVariants as rows
use Rattle.framehop_whole_steps.specs.FoundRows.{FoundRow, found_row}

-- the row of an FDE, if there is one
abbrev pub row_of : FrameSection → Fde → Result (Row ℕ) Error → Option FoundRow
row_of section fde (Ok row) = Some (found_row section.within.bytes row fde.cie.return_address_register.0)
row_of section fde (Err e) = None

-- that which covers an address, with the instructions of this vendor, within these limits
abbrev pub row_for : Limits → Vendor → FrameSection → (address : ℕ) → Fde → Option FoundRow
row_for limits vendor section address fde = row_of section fde (fde_row limits section vendor fde address)

-- by what is known of the FDE for the address
abbrev pub row_by_found : Limits → Vendor → FrameSection → (address : ℕ) → FoundFde → Option FoundRow
row_by_found limits vendor section address (Ok (Some fde)) = row_for limits vendor section address fde
row_by_found limits vendor section address (Ok None) = None
row_by_found limits vendor section address (Err e) = None

-- in a section with the lookup of its FDEs, at a relative address
abbrev pub row_in : Limits → Vendor → PlacedFrames → (relative : ℕ) → Option FoundRow
row_in limits vendor frames relative =
    row_by_found limits vendor (section_of frames) (frames.base_svma + relative) (fde_for frames relative)

-- by a module's format: in the section of its call frames that is used at the address
abbrev pub row_by_format : Limits → Vendor → ModuleFormat → (relative : ℕ) → Option FoundRow
row_by_format limits vendor (CallFrames frames) relative = row_in limits vendor (frames_used frames relative) relative
row_by_format limits vendor others relative = None

-- rows are taken to say what DWARF says
abbrev pub is_whole : Rows → Bool
is_whole rows.Published = false
is_whole rows.Whole = true

-- the row by which a step from a relative address goes, if the module's load asks for that
abbrev pub row_at : Limits → Vendor → UnwindData → (relative : ℕ) → Option FoundRow
row_at limits vendor given relative = if is_whole given.rows then row_by_format limits vendor given.format relative else None
