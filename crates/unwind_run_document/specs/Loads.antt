-- Loads and unloads of modules, decoded from their JSON values.
use Rattle.std.specs.Prelude.{ℕ, if◌then◌else◌, List, [], ◌∷◌, codes, Ok, Err}
use Rattle.serde_json.specs.Data.{Data}
use Rattle.serde_json.specs.Find.{get}
use Rattle.json_program.specs.declared.fault.FaultName.TheVariants.{BadCommand}
use Rattle.json_program.specs.Faults.{Checked, ◌⊛◌}
use Rattle.json_program.specs.Json.{text_value, address_value, field, has_only}
use Rattle.unwind_run_document.specs.Tasks.{StatedSection, Loading, Unloading}
use Rattle.unwind_run_document.specs.Made.{Made, made_number}
use Rattle.unwind_run_document.specs.Options.{options_in}
use Rattle.unwind_run_document.specs.Sections.{sections_in, segments_in}
use Rattle.unwind_run_document.specs.declared.command.StatedOptions.{StatedOptions}

-- the fields of a load
abbrev pub load_names : List (List ℕ)
load_names =
    codes "do" ∷ codes "unwinder" ∷ codes "name" ∷ codes "start" ∷ codes "end" ∷ codes "base" ∷ codes "base_svma"
    ∷ codes "sections" ∷ codes "segments" ∷ codes "lookup" ∷ codes "tables" ∷ codes "debug_frame_beside" ∷ codes "code_rules"
    ∷ codes "rows" ∷ []

-- the load of these parts
abbrev pub loading_of : ℕ → List ℕ → ℕ → ℕ → ℕ → ℕ → (sections segments : List StatedSection) → StatedOptions → Loading
loading_of unwinder name start end base base_svma sections segments options = record {
  unwinder = unwinder;
  name = name;
  start = start;
  end = end;
  base = base;
  base_svma = base_svma;
  sections = sections;
  segments = segments;
  options = options;
}

-- a value that has to be a load
abbrev pub load_in : Made → Data → Checked Loading
load_in made d =
    if has_only load_names d
    then Ok loading_of ⊛ made_number made.unwinders (codes "unwinder") d ⊛ field text_value (codes "name") d
    ⊛ field address_value (codes "start") d ⊛ field address_value (codes "end") d
    ⊛ field address_value (codes "base") d ⊛ field address_value (codes "base_svma") d
    ⊛ field sections_in (codes "sections") d ⊛ segments_in (get (codes "segments") d) ⊛ options_in d
    else Err BadCommand

-- the fields of an unload
abbrev pub unload_names : List (List ℕ)
unload_names = codes "do" ∷ codes "unwinder" ∷ codes "start" ∷ []

-- the unload of these parts
abbrev pub unloading_of : ℕ → ℕ → Unloading
unloading_of unwinder start = record { unwinder = unwinder; start = start }

-- a value that has to be an unload
abbrev pub unload_in : Made → Data → Checked Unloading
unload_in made d =
    if has_only unload_names d
    then Ok unloading_of ⊛ made_number made.unwinders (codes "unwinder") d ⊛ field address_value (codes "start") d
    else Err BadCommand
