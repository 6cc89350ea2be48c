-- What a module's load may ask for.
use Rattle.std.specs.Prelude.{ℕ, false, true, List, Option, Some, None, if◌then◌else◌}
use Rattle.framehop_code_rules.specs.declared.CodeRules.TheVariants.{Published}
use Rattle.framehop_loads.specs.declared.load_options.Rows.TheVariants as rows
use Rattle.framehop_index.specs.FdeLookups.{Lookup, ByHeader, ByIndex, ByScan, PlacedFrames, is_indexed}
use Rattle.framehop_loads.specs.declared.load_options.FdeLookup.{FdeLookup}
use Rattle.framehop_loads.specs.declared.load_options.FdeLookup.TheVariants.{Auto, Index, Scan}
use Rattle.framehop_loads.specs.declared.load_options.LoadOptions.{LoadOptions}
use Rattle.framehop_loads.specs.declared.load_options.TableArch.{TableArch}

-- by a header, if there is one, else by an index; with no table, by one section of call frames alone, and code and rows by the rules of the original
abbrev pub as_original : LoadOptions
as_original = record { lookup = Auto; tables = None; debug_frame_beside = false; code_rules = Published; rows = rows.Published }

-- with an index, also if there is a header, and a table of what it says on an architecture
abbrev pub with_table : TableArch → LoadOptions
with_table arch = record { lookup = Index; tables = Some arch; debug_frame_beside = false; code_rules = Published; rows = rows.Published }

-- with neither index nor header
abbrev pub by_scan : LoadOptions
by_scan = record { lookup = Scan; tables = None; debug_frame_beside = false; code_rules = Published; rows = rows.Published }

-- with `.debug_frame` beside `.eh_frame`
abbrev pub with_both : LoadOptions
with_both = record { lookup = Auto; tables = None; debug_frame_beside = true; code_rules = Published; rows = rows.Published }

-- the lookup of a section's FDEs, by what is asked for, and the header, if there is one, even one that doesn't parse: a table is made by
-- an index, so that no header is used beside one
abbrev pub lookup_by : FdeLookup → (tables : Option TableArch) → (header : Option (List ℕ)) → Lookup
lookup_by Auto None (Some header) = ByHeader header
lookup_by Auto None None = ByIndex
lookup_by Auto (Some arch) header = ByIndex
lookup_by Index tables header = ByIndex
lookup_by Scan tables header = ByScan

abbrev pub lookup_with : LoadOptions → (header : Option (List ℕ)) → Lookup
lookup_with options header = lookup_by options.lookup options.tables header

-- the architecture of a section's table: the one that is asked for, if FDEs are found by an index that the section has
abbrev pub table_on : (tables : Option TableArch) → PlacedFrames → Option TableArch
table_on None main = None
table_on (Some arch) main = if is_indexed main then Some arch else None
