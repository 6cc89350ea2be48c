-- What a module is unwound by, and what of its call frames no index finds.
use Rattle.std.specs.Prelude.{List, ℕ, Option, Some, None, option_map, if◌then◌else◌}
use Rattle.framehop_index.specs.FdeLookups.{PlacedFrames}
use Rattle.framehop_index.specs.LeftOut.{fdes_left_out, lacks_index}
use Rattle.framehop_index.specs.declared.section_type.UnwindSectionType.{UnwindSectionType}
use Rattle.framehop_index.specs.declared.section_type.UnwindSectionType.TheVariants as section
use Rattle.framehop_loads.specs.UnwindData.{ModuleFormat, CallFrames, Pe, Compact, NoFormat}
use Rattle.framehop_loads.specs.declared.unwind_kind.LeftOut.{LeftOut}
use Rattle.framehop_loads.specs.declared.unwind_kind.LeftOut.TheVariants.{Fdes, Section}
use Rattle.framehop_loads.specs.declared.unwind_kind.UnwindDataKind.{UnwindDataKind}
use Rattle.framehop_loads.specs.declared.unwind_kind.UnwindDataKind.TheVariants as kind

-- the kind of a section of call frames
abbrev pub kind_of_section : UnwindSectionType (List ℕ) → UnwindDataKind
kind_of_section (section.EhFrame bytes) = kind.EhFrame
kind_of_section (section.DebugFrame bytes) = kind.DebugFrame

-- the kind of a format
abbrev pub kind_of : ModuleFormat → UnwindDataKind
kind_of (CallFrames frames) = kind_of_section frames.main.section
kind_of (Pe file) = kind.Pdata
kind_of (Compact file eh_frame) = kind.CompactUnwindInfo
kind_of NoFormat = kind.NoSections

-- what is left out of a section: all of it if it has no index and FDEs would be found by one, or else the FDEs that its index leaves out
abbrev pub left_out_of_section : PlacedFrames → Option LeftOut
left_out_of_section frames = if lacks_index frames then Some Section else option_map Fdes (fdes_left_out frames)

-- what is left out of the section of call frames that a module is unwound by, if it is
abbrev pub left_out_of : ModuleFormat → Option LeftOut
left_out_of (CallFrames frames) = left_out_of_section frames.main
left_out_of (Pe file) = None
left_out_of (Compact file eh_frame) = None
left_out_of NoFormat = None
