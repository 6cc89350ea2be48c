-- The modules of a process's files.
use Rattle.std.specs.Prelude.{List, [], ◌∷◌, Option, Some, None}
use Rattle.std.specs.Option.{option_map}
use Rattle.backtrace_files.specs.Files.{CodeOfFile, ProcessFile, loaded_code}
use Rattle.backtrace_files.specs.Sections.{sections_of}
use Rattle.core_files.specs.MappedFiles.{FileMapping}
use Rattle.framehop_loads.specs.LoadOptions.{with_both}
use Rattle.framehop_loads.specs.UnwindData.{UnwindData, unwind_data_with}
use Rattle.framehop_loads.specs.declared.load_options.LoadOptions.{LoadOptions}
use Rattle.framehop_loads.specs.declared.load_options.Rows.TheVariants.{Whole}
use Rattle.framehop_unwinder.specs.Modules.{Loaded, with_loaded}

-- what is asked for of each module: `.debug_frame` beside `.eh_frame`, and rows that say what DWARF says
abbrev pub options_of_files : LoadOptions
options_of_files = record with_both { rows = Whole }

-- the unwind data of a file's code: that of its sections
abbrev pub data_of_code : CodeOfFile → UnwindData
data_of_code code = unwind_data_with options_of_files (sections_of code.bytes code.header code.base_svma)

-- the module of a mapping with code: its addresses are those of the mapping, and relative ones count from where the segment with the
-- code begins
abbrev pub module_with : FileMapping → CodeOfFile → Loaded UnwindData
module_with mapping code = record {
  name = [];
  start = mapping.start;
  end = mapping.end;
  base = code.base_avma;
  unwind_data = data_of_code code;
}

-- the module of a file, if its code is mapped
abbrev pub module_of : ProcessFile → Option (Loaded UnwindData)
module_of file = option_map (module_with file.mapping) (loaded_code file)

-- modules, once one more is loaded, if there is one
abbrev pub with_one : List (Loaded UnwindData) → Option (Loaded UnwindData) → List (Loaded UnwindData)
with_one modules None = modules
with_one modules (Some module_) = with_loaded module_ modules

-- modules, once those of files are loaded, one after the other
abbrev pub with_files : List (Loaded UnwindData) → List ProcessFile → List (Loaded UnwindData)
with_files modules [] = modules
with_files modules (file ∷ files) = with_files (with_one modules (module_of file)) files

-- the modules of files
abbrev pub modules_of : List ProcessFile → List (Loaded UnwindData)
modules_of files = with_files [] files
