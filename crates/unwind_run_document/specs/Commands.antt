-- The commands of a document, each decoded from its JSON value. Each field is checked by itself, and of the
-- faults of a command the one of the first class counts.
use Rattle.std.specs.Prelude.{ℕ, ◌^◌, Bool, ◌==◌, ◌||◌, if◌then◌else◌, List, [], ◌∷◌, codes, bytes_eq, Option, Some, None, Ok, Err}
use Rattle.std.specs.List.{list_any, range_with_len}
use Rattle.std.specs.Option.{ok_or}
use Rattle.serde_json.specs.Data.{Data}
use Rattle.serde_json.specs.Find.{get}
use Rattle.serde_json.specs.Written.{has_float}
use Rattle.json_program.specs.declared.fault.FaultName.TheVariants.{FloatNumber, BadCommand, BadNumber}
use Rattle.unwind_run_document.specs.declared.document.Architecture.{Architecture}
use Rattle.unwind_run_document.specs.declared.command.Verb.{Verb}
use Rattle.unwind_run_document.specs.declared.command.Verb.TheVariants as verb
use Rattle.json_program.specs.Faults.{Checked, ◌⊛◌, ◌>>=◌}
use Rattle.json_program.specs.Json.{number_value, text_value, field, has_only}
use Rattle.unwind_run_document.specs.Tasks.{Task, make_unwinder, make_cache, clone_unwinder, remove_unwinder, remove_cache, load_module, unload_module, take_step, take_walk, show_counts, show_occupancy, take_roads}
use Rattle.unwind_run_document.specs.Made.{Made, one_number}
use Rattle.unwind_run_document.specs.Steps.{step_in, walk_in}
use Rattle.unwind_run_document.specs.Lookups.{roads_in}
use Rattle.unwind_run_document.specs.Loads.{load_in, unload_in}

-- what a command does
abbrev pub verb_of : List ℕ → Option Verb
verb_of text =
    if bytes_eq text (codes "unwinder") then Some verb.Unwinder
    else if bytes_eq text (codes "cache") then Some verb.Cache
    else if bytes_eq text (codes "clone") then Some verb.Clone
    else if bytes_eq text (codes "remove_unwinder") then Some verb.RemoveUnwinder
    else if bytes_eq text (codes "remove_cache") then Some verb.RemoveCache
    else if bytes_eq text (codes "load") then Some verb.Load
    else if bytes_eq text (codes "unload") then Some verb.Unload
    else if bytes_eq text (codes "step") then Some verb.Step
    else if bytes_eq text (codes "walk") then Some verb.Walk
    else if bytes_eq text (codes "stats") then Some verb.Stats
    else if bytes_eq text (codes "occupancy") then Some verb.Occupancy
    else if bytes_eq text (codes "roads") then Some verb.Roads
    else None

-- a value that has to be the name of what a command does
abbrev pub verb_in : Data → Checked Verb
verb_in d = do
  text ← text_value d
  ok_or (verb_of text) BadCommand

-- a cache can have so many slots: 509, or a power of two from 2 to 2^20
unfoldable pub is_slot_count : ℕ → Bool
is_slot_count count = count == 509 || list_any (λ exponent. count == 2 ^ exponent) (range_with_len 1 20)

-- so many slots
abbrev pub slots_of_count : ℕ → Checked ℕ
slots_of_count count = if is_slot_count count then Ok count else Err BadNumber

-- how many slots a new cache has: 509, if that is left out
abbrev pub slots_in : Option Data → Checked ℕ
slots_in None = Ok 509
slots_in (Some d) = do
  count ← number_value d
  slots_of_count count

-- the command of a verb
abbrev pub task_in : Architecture → Made → Data → Verb → Checked Task
task_in machine made d verb.Unwinder = if has_only (codes "do" ∷ []) d then Ok make_unwinder else Err BadCommand
task_in machine made d verb.Cache =
    if has_only (codes "do" ∷ codes "slots" ∷ []) d then Ok make_cache ⊛ slots_in (get (codes "slots") d) else Err BadCommand
task_in machine made d verb.Clone = Ok clone_unwinder ⊛ one_number made.unwinders (codes "unwinder") d
task_in machine made d verb.RemoveUnwinder = Ok remove_unwinder ⊛ one_number made.unwinders (codes "unwinder") d
task_in machine made d verb.RemoveCache = Ok remove_cache ⊛ one_number made.caches (codes "cache") d
task_in machine made d verb.Load = Ok load_module ⊛ load_in made d
task_in machine made d verb.Unload = Ok unload_module ⊛ unload_in made d
task_in machine made d verb.Step = Ok take_step ⊛ step_in machine made d
task_in machine made d verb.Walk = Ok take_walk ⊛ walk_in machine made d
task_in machine made d verb.Stats = Ok show_counts ⊛ one_number made.caches (codes "cache") d
task_in machine made d verb.Occupancy = Ok show_occupancy ⊛ one_number made.caches (codes "cache") d
task_in machine made d verb.Roads = Ok take_roads ⊛ roads_in machine d

-- a command without floats
abbrev pub command_fields : Architecture → Made → Data → Checked Task
command_fields machine made d = do
  verb ← field verb_in (codes "do") d
  task_in machine made d verb

-- one command, after what earlier ones made
abbrev pub command_in : Architecture → Made → Data → Checked Task
command_in machine made d = if has_float d then Err FloatNumber else command_fields machine made d
