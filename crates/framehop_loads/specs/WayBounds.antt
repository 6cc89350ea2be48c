-- Where a frame can go by a way out of its function: the bounds of the code around its address, by a module's format.
-- Addresses are relative to the module's base.
use Rattle.std.specs.Prelude.{ℕ, Bool, if◌then◌else◌, Option, Some, None, is_some, Ok, Err}
use Rattle.framehop_code.specs.Ranges.{everywhere}
use Rattle.framehop_code.specs.declared.range.CodeRange.{CodeRange}
use Rattle.framehop_compact.specs.CompactResults.{Refusable}
use Rattle.framehop_compact.specs.Places.{place_of}
use Rattle.framehop_compact.specs.declared.sections.Place.{Place}
use Rattle.framehop_compact.specs.declared.sections.Place.TheVariants as place
use Rattle.framehop_compact_tables.specs.declared.function.Function.{Function}
use Rattle.framehop_index.specs.FdeLookups.{covers}
use Rattle.framehop_pe.specs.Rows.{first_row}
use Rattle.framehop_loads.specs.CallFrames.{frames_used}
use Rattle.framehop_loads.specs.UnwindData.{ModuleFormat, CallFrames, Compact, NoFormat, Pe}

-- in code that no table covers, anywhere
abbrev pub unless_covered : Bool → Option CodeRange
unless_covered covered = if covered then None else Some everywhere

-- the code of a function
abbrev pub function_range : Function → CodeRange
function_range function = record { begin = function.start_address; end = function.end_address }

-- by where an address is in a Mach-O file: in a function, or where the tables have none, but not in stubs, which have rules of their own
abbrev pub bounds_in : Refusable Place → Option CodeRange
bounds_in (Ok place.Stubs) = None
bounds_in (Ok (place.StubHelper offset)) = None
bounds_in (Ok (place.Function function)) = Some (function_range function)
bounds_in (Ok place.NoFunction) = Some everywhere
bounds_in (Err refusal) = Some everywhere

-- by a module's format: where no FDE contains the address; where no row of a PE file has it; and in each function of a Mach-O file
abbrev pub way_bounds : ModuleFormat → (relative : ℕ) → Option CodeRange
way_bounds (CallFrames frames) relative = unless_covered (covers (frames_used frames relative) relative)
way_bounds (Pe file) relative = unless_covered (is_some (first_row file.pdata relative))
way_bounds (Compact file eh_frame) relative = bounds_in (place_of file relative)
way_bounds NoFormat relative = Some everywhere
