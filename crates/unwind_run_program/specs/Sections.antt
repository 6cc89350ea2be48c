-- The sections of a load by their names.
use Rattle.std.specs.Prelude.{ℕ, Bool, false, List, [], ◌∷◌, Option, Some, None, option_map, bytes_eq, if◌then◌else◌}
use Rattle.std.specs.Option.{option_or}
use Rattle.std.specs.declared.ops.Range.{Range}
use Rattle.framehop_code_rules.specs.declared.CodeRules.TheVariants.{Published}
use Rattle.framehop_loads.specs.UnwindData.{UnwindData, unwind_data_with}
use Rattle.framehop_loads.specs.declared.load_options.FdeLookup.{FdeLookup}
use Rattle.framehop_loads.specs.declared.load_options.FdeLookup.TheVariants.{Auto, Index, Scan}
use Rattle.framehop_loads.specs.declared.load_options.LoadOptions.{LoadOptions}
use Rattle.framehop_loads.specs.declared.load_options.Rows.{Rows}
use Rattle.framehop_loads.specs.declared.load_options.Rows.TheVariants as rows
use Rattle.framehop_loads.specs.declared.load_options.TableArch.{TableArch}
use Rattle.framehop_modules.specs.Sections.{Sections}
use Rattle.unwind_run_document.specs.declared.command.AddressRange.{AddressRange}
use Rattle.unwind_run_document.specs.Options.{options_of}
use Rattle.unwind_run_document.specs.Tasks.{StatedSection}
use Rattle.unwind_run_document.specs.declared.command.StatedLookup.{StatedLookup}
use Rattle.unwind_run_document.specs.declared.command.StatedLookup.TheVariants as stated
use Rattle.unwind_run_document.specs.declared.command.StatedOptions.{StatedOptions}
use Rattle.unwind_run_document.specs.declared.command.StatedRows.{StatedRows}
use Rattle.unwind_run_document.specs.declared.command.StatedRows.TheVariants as stated_rows

-- a section's range, as a range of numbers
abbrev pub range_of : AddressRange → Range ℕ
range_of range = record { start = range.start; end = range.end }

-- the range of the first section of this name that has one
abbrev pub stated_range_named : List ℕ → List StatedSection → Option (Range ℕ)
stated_range_named name [] = None
stated_range_named name (section ∷ sections) =
    option_or (if bytes_eq section.name name then option_map range_of section.range else None) (stated_range_named name sections)

-- the data of the first section of this name that has some
abbrev pub first_data_named : List ℕ → List StatedSection → Option (List ℕ)
first_data_named name [] = None
first_data_named name (section ∷ sections) =
    option_or (if bytes_eq section.name name then section.bytes else None) (first_data_named name sections)

-- sections and segments by their names, whose stated addresses are relative to an address
abbrev pub sections_stated : ℕ → (sections segments : List StatedSection) → Sections
sections_stated base_svma sections segments = record {
  base_svma = base_svma;
  section_range = λ name. stated_range_named name sections;
  section_data = λ name. first_data_named name sections;
  segment_range = λ name. stated_range_named name segments;
  segment_data = λ name. first_data_named name segments;
}

-- the unwind data of sections and segments whose stated addresses are relative to an address, by what is asked for beside them
abbrev pub DataForms : Type 0 → Type 0
DataForms Data = StatedOptions → (base_svma : ℕ) → (sections segments : List StatedSection) → Data

-- how the FDEs are found
abbrev pub lookup_of : StatedLookup → FdeLookup
lookup_of stated.Auto = Auto
lookup_of stated.Index = Index
lookup_of stated.Scan = Scan

-- the architecture of a table, if one is asked for
abbrev pub tables_on : TableArch → Bool → Option TableArch
tables_on arch asked = if asked then Some arch else None

-- what rows are taken to say
abbrev pub rows_of : StatedRows → Rows
rows_of stated_rows.Published = rows.Published
rows_of stated_rows.Whole = rows.Whole

-- what is asked for, with a table on an architecture if one is
abbrev pub options_on : TableArch → StatedOptions → LoadOptions
options_on arch options = record {
  lookup = lookup_of options.lookup;
  tables = tables_on arch options.tables;
  debug_frame_beside = options.debug_frame_beside;
  code_rules = options.code_rules;
  rows = rows_of options.rows;
}

-- the unwind data of sections by their names, on an architecture
abbrev pub data_stated : TableArch → DataForms UnwindData
data_stated arch options base_svma sections segments = unwind_data_with (options_on arch options) (sections_stated base_svma sections segments)

-- nothing is asked for
abbrev pub plain : StatedOptions
plain = options_of stated.Auto false false Published stated_rows.Published

-- each step is to scan the section of call frames
abbrev pub scanning : StatedOptions
scanning = options_of stated.Scan false false Published stated_rows.Published
