-- Files that are mapped in a profiled process, and what their loads do.
use Rattle.std.specs.Prelude.{ℕ, ◌≡◌, [], not, ◌==◌, Option, Some, None, option_and_then, option_map, if◌then◌else◌}
use Rattle.framehop_code_rules.specs.declared.CodeRules.{CodeRules}
use Rattle.framehop_code_rules.specs.declared.CodeRules.TheVariants.{Known, Published, Ways}
use Rattle.framehop_loads.specs.declared.load_options.Rows.TheVariants as rows
use Rattle.framehop_unwinder.specs.Modules.{Loaded}
use Rattle.framehop_loads.specs.UnwindData.{UnwindData, unwind_data_with}
use Rattle.framehop_loads.specs.declared.load_options.FdeLookup.{FdeLookup}
use Rattle.framehop_loads.specs.declared.load_options.FdeLookup.TheVariants.{Auto, Index, Scan}
use Rattle.framehop_loads.specs.declared.load_options.LoadOptions.{LoadOptions}
use Rattle.framehop_loads.specs.declared.load_options.TableArch.{TableArch}
use Rattle.framehop_loads.specs.declared.load_options.TableArch.TheVariants as arch
use Rattle.framehop_calls.specs.Calls.{LoadsModule}
use Rattle.framehop_calls.specs.Sections.{sections_listed}
use Rattle.framehop_calls.specs.Statuses.{bad_argument}
use Rattle.framehop_c.specs.Sessions.{Does}
use Rattle.framehop_c.specs.declared.files.MappedFile.{MappedFile}
use Rattle.framehop_c.specs.declared.session.AnySession.{AnySession}
use Rattle.framehop_c.specs.declared.session.AnySession.TheVariants.{X86_64, Aarch64}

-- the lookup of a number
abbrev pub lookup_numbered : ℕ → Option FdeLookup
lookup_numbered number =
    if number == 0 then Some Auto else (if number == 1 then Some Index else (if number == 2 then Some Scan else None))

-- the rules of code of a number
abbrev pub code_rules_numbered : ℕ → Option CodeRules
code_rules_numbered number =
    if number == 0 then Some Published else (if number == 1 then Some Known else (if number == 2 then Some Ways else None))

-- what a load asks for on an architecture, by a lookup and rules of code
abbrev pub options_by : TableArch → MappedFile → FdeLookup → CodeRules → LoadOptions
options_by on file lookup code_rules = record {
  lookup = lookup;
  tables = if file.tables == 0 then None else Some on;
  debug_frame_beside = not (file.debug_frame_beside == 0);
  code_rules = code_rules;
  rows = rows.Published;
}

-- .. if those are of these numbers
abbrev pub options_of : TableArch → MappedFile → Option LoadOptions
options_of on file =
    option_and_then (λ lookup. option_map (options_by on file lookup) (code_rules_numbered file.code_rules)) (lookup_numbered file.lookup)

-- the module of a file, as its load asks for it: without a name
abbrev pub module_of : MappedFile → LoadOptions → Loaded UnwindData
module_of file options = record {
  name = [];
  start = file.start;
  end = file.end;
  base = file.base;
  unwind_data = unwind_data_with options (sections_listed file.base_svma file.sections.now);
}

-- what tables of a session's modules are made for
abbrev pub arch_of : AnySession → TableArch
arch_of (X86_64 session) = arch.X86_64
arch_of (Aarch64 session) = arch.Aarch64

-- A file is loaded in an unwinder as these options ask, if there are some.
abbrev pub LoadsFileBy : ℕ → ℕ → MappedFile → Option LoadOptions → AnySession → AnySession → Type 0
LoadsFileBy status unwinder file None old new = (status ≡ bad_argument) × (new ≡ old)
LoadsFileBy status unwinder file (Some options) old new = Does (λ R. LoadsModule status unwinder (module_of file options)) old new

-- as its load asks
abbrev pub LoadsFile : ℕ → ℕ → MappedFile → AnySession → AnySession → Type 0
LoadsFile status unwinder file old new = LoadsFileBy status unwinder file (options_of (arch_of old) file) old new
