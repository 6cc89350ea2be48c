-- How many unwinders and caches earlier commands made, and the numbers that name one of them.
use Rattle.std.specs.Prelude.{ℕ, ◌+◌, nat_lt, if◌then◌else◌, List, [], ◌∷◌, codes, Ok, Err}
use Rattle.serde_json.specs.Data.{Data}
use Rattle.json_program.specs.declared.fault.FaultName.TheVariants.{BadCommand, UnknownNumber}
use Rattle.json_program.specs.Faults.{Checked, ◌>>=◌}
use Rattle.json_program.specs.Json.{number_value, field, has_only}
use Rattle.unwind_run_document.specs.Tasks.{Task, make_unwinder, make_cache, clone_unwinder}

-- how many unwinders and caches earlier commands made
pub record Made : Type 0 where
  pub unwinders : ℕ
  pub caches : ℕ

-- a number that is below a count
abbrev pub number_below : ℕ → ℕ → Checked ℕ
number_below count n = if nat_lt n count then Ok n else Err UnknownNumber

-- the number in a field, of something that an earlier command made
abbrev pub made_number : ℕ → List ℕ → Data → Checked ℕ
made_number count name d = do
  number ← field number_value name d
  number_below count number

-- a command with one other field: the number of something that earlier commands made
abbrev pub one_number : ℕ → List ℕ → Data → Checked ℕ
one_number count name d =
    if has_only (codes "do" ∷ name ∷ []) d then made_number count name d else Err BadCommand

-- how many unwinders and caches there are after a command
abbrev pub made_after : Made → Task → Made
made_after made make_unwinder = record { unwinders = made.unwinders + 1; caches = made.caches }
made_after made (make_cache slots) = record { unwinders = made.unwinders; caches = made.caches + 1 }
made_after made (clone_unwinder unwinder) = record { unwinders = made.unwinders + 1; caches = made.caches }
made_after made _ = made
