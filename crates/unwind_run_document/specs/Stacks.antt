-- A stack, as a command states it.
use Rattle.std.specs.Prelude.{ℕ, ◌+◌, ◌-◌, ◌*◌, ◌^◌, nat_lt, if◌then◌else◌, List, [], ◌∷◌, length, codes, Ok, Err}
use Rattle.std.specs.Option.{ok_or}
use Rattle.serde_json.specs.Data.{Data}
use Rattle.serde_json.specs.Find.{as_array}
use Rattle.json_program.specs.declared.fault.FaultName.TheVariants.{BadCommand, BadNumber}
use Rattle.json_program.specs.Faults.{Checked, both, ◌>>=◌}
use Rattle.json_program.specs.Json.{address_value, field, list_of, has_only}
use Rattle.unwind_run_document.specs.Tasks.{StackWords}

-- the words of a stack, of which the last has an address below 2^64 too
abbrev pub stack_at : ℕ → List ℕ → Checked StackWords
stack_at start words =
    if nat_lt (start + 8 * (length words - 1)) (2 ^ 64) then Ok (record { start = start; words = words }) else Err BadNumber

-- a value that has to be a list of words
abbrev pub words_in : Data → Checked (List ℕ)
words_in d = do
  items ← ok_or (as_array d) BadCommand
  list_of address_value items

-- the fields of a stack
abbrev pub stack_names : List (List ℕ)
stack_names = codes "start" ∷ codes "words" ∷ []

-- the fields of a value that has to be a stack
abbrev pub stack_fields : Data → Checked StackWords
stack_fields d = do
  stack ← both (field address_value (codes "start") d) (field words_in (codes "words") d)
  stack_at stack.0 stack.1

-- a value that has to be a stack
abbrev pub stack_in : Data → Checked StackWords
stack_in d = if has_only stack_names d then stack_fields d else Err BadCommand
