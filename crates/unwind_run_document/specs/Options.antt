-- The options of a load, decoded from their JSON values.
use Rattle.std.specs.Prelude.{Bool, false, if◌then◌else◌, List, ℕ, codes, bytes_eq, ok_or, Ok, Option, Some, None}
use Rattle.framehop_code_rules.specs.declared.CodeRules.{CodeRules}
use Rattle.framehop_code_rules.specs.declared.CodeRules.TheVariants.{Known, Published, Ways}
use Rattle.serde_json.specs.Data.{Data}
use Rattle.serde_json.specs.Find.{as_bool, get}
use Rattle.json_program.specs.declared.fault.FaultName.TheVariants.{BadCommand}
use Rattle.json_program.specs.Faults.{Checked, ◌>>=◌, ◌⊛◌}
use Rattle.json_program.specs.Json.{text_value}
use Rattle.unwind_run_document.specs.declared.command.StatedLookup.{StatedLookup}
use Rattle.unwind_run_document.specs.declared.command.StatedLookup.TheVariants.{Auto, Index, Scan}
use Rattle.unwind_run_document.specs.declared.command.StatedOptions.{StatedOptions}
use Rattle.unwind_run_document.specs.declared.command.StatedRows.{StatedRows}
use Rattle.unwind_run_document.specs.declared.command.StatedRows.TheVariants as rows

-- the lookup of this name
abbrev pub lookup_named : List ℕ → Option StatedLookup
lookup_named text =
    if bytes_eq text (codes "auto") then Some Auto
    else if bytes_eq text (codes "index") then Some Index
    else if bytes_eq text (codes "scan") then Some Scan else None

-- a value that has to name a lookup
abbrev pub lookup_value : Data → Checked StatedLookup
lookup_value d = do
  text ← text_value d
  ok_or (lookup_named text) BadCommand

-- the lookup that is stated, or the one by what there is
abbrev pub lookup_at : Option Data → Checked StatedLookup
lookup_at None = Ok Auto
lookup_at (Some d) = lookup_value d

-- the rules of code of this name
abbrev pub code_rules_named : List ℕ → Option CodeRules
code_rules_named text =
    if bytes_eq text (codes "published") then Some Published
    else if bytes_eq text (codes "known") then Some Known
    else if bytes_eq text (codes "ways") then Some Ways else None

-- a value that has to name them
abbrev pub code_rules_value : Data → Checked CodeRules
code_rules_value d = do
  text ← text_value d
  ok_or (code_rules_named text) BadCommand

-- those that are stated, or those of the original
abbrev pub code_rules_at : Option Data → Checked CodeRules
code_rules_at None = Ok Published
code_rules_at (Some d) = code_rules_value d

-- what rows are taken to say by this name
abbrev pub rows_named : List ℕ → Option StatedRows
rows_named text =
    if bytes_eq text (codes "published") then Some rows.Published
    else if bytes_eq text (codes "whole") then Some rows.Whole else None

-- a value that has to name that
abbrev pub rows_value : Data → Checked StatedRows
rows_value d = do
  text ← text_value d
  ok_or (rows_named text) BadCommand

-- what is stated, or what the original takes of them
abbrev pub rows_at : Option Data → Checked StatedRows
rows_at None = Ok rows.Published
rows_at (Some d) = rows_value d

-- a value that has to be true or false, and is false if it isn't stated
abbrev pub flag_at : Option Data → Checked Bool
flag_at None = Ok false
flag_at (Some d) = ok_or (as_bool d) BadCommand

-- the options of these parts
abbrev pub options_of : StatedLookup → (tables debug_frame_beside : Bool) → CodeRules → StatedRows → StatedOptions
options_of lookup tables debug_frame_beside code_rules rows = record {
  lookup = lookup;
  tables = tables;
  debug_frame_beside = debug_frame_beside;
  code_rules = code_rules;
  rows = rows;
}

-- the options of a load
abbrev pub options_in : Data → Checked StatedOptions
options_in d =
    Ok options_of ⊛ lookup_at (get (codes "lookup") d) ⊛ flag_at (get (codes "tables") d)
    ⊛ flag_at (get (codes "debug_frame_beside") d) ⊛ code_rules_at (get (codes "code_rules") d)
    ⊛ rows_at (get (codes "rows") d)
