-- The sections of a module, decoded from their JSON values.
use Rattle.std.specs.Prelude.{ℕ, ◌&&◌, Bool, true, not, if◌then◌else◌, List, [], ◌∷◌, ◌++◌, codes, bytes_eq, Option, Some, None, option_and_then, Ok, Err}
use Rattle.std.specs.List.{list_any}
use Rattle.std.specs.Option.{ok_or, option_to_list}
use Rattle.serde_json.specs.Data.{Data, Items, no_items, item}
use Rattle.serde_json.specs.Find.{get, as_str, as_array}
use Rattle.json_program.specs.declared.fault.FaultName.TheVariants.{BadCommand}
use Rattle.unwind_run_document.specs.declared.command.AddressRange.{AddressRange}
use Rattle.json_program.specs.Faults.{Checked, ◌⊛◌, ◌>>=◌}
use Rattle.json_program.specs.Json.{text_value, address_value, bytes_value, field, optional_value, list_of, has_only}
use Rattle.unwind_run_document.specs.Tasks.{StatedSection}

-- the range of a section: a start with its end, or neither
abbrev pub range_between : Option Data → Option Data → Checked (Option AddressRange)
range_between None None = Ok None
range_between (Some start) None = Err BadCommand
range_between None (Some end) = Err BadCommand
range_between (Some start) (Some end) =
    Ok (λ start end. Some (record { start = start; end = end })) ⊛ address_value start ⊛ address_value end

-- the fields of a section
abbrev pub section_names : List (List ℕ)
section_names = codes "name" ∷ codes "start" ∷ codes "end" ∷ codes "data" ∷ []

-- a value that has to be a section
abbrev pub section_in : Data → Checked StatedSection
section_in d =
    if has_only section_names d
    then Ok (λ name range bytes. record { name = name; range = range; bytes = bytes })
    ⊛ field text_value (codes "name") d ⊛ range_between (get (codes "start") d) (get (codes "end") d)
    ⊛ optional_value bytes_value (get (codes "data") d)
    else Err BadCommand

-- the names of the sections that have one
abbrev pub names_of : Items → List (List ℕ)
names_of no_items = []
names_of (item d ds) = option_to_list (option_and_then as_str (get (codes "name") d)) ++ names_of ds

-- no text occurs twice, or among those before
abbrev pub are_new : List (List ℕ) → List (List ℕ) → Bool
are_new before [] = true
are_new before (text ∷ texts) = not (list_any (λ other. bytes_eq other text) before) && are_new (text ∷ before) texts

-- no text occurs twice
abbrev pub are_distinct : List (List ℕ) → Bool
are_distinct texts = are_new [] texts

-- sections, of which no two have one name
abbrev pub sections_at : Items → Checked (List StatedSection)
sections_at ds = if are_distinct (names_of ds) then list_of section_in ds else Err BadCommand

-- a value that has to be the list of the sections
abbrev pub sections_in : Data → Checked (List StatedSection)
sections_in d = do
  items ← ok_or (as_array d) BadCommand
  sections_at items

-- the segments, which are such a list too, or none if they aren't stated
abbrev pub segments_in : Option Data → Checked (List StatedSection)
segments_in None = Ok []
segments_in (Some d) = sections_in d
