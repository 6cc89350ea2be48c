-- Names keep their numbers.
use Rattle.std.specs.Prelude.{◌≡◌, ℕ, List, slice_get, Option, Some, None, IfSome, IfOk}
use Rattle.perf_files.specs.Records.{RecordParts}
use Rattle.perf_files.specs.Tasks.{command_of}
use Rattle.perf_files.specs.declared.attributes.Attributes.{Attributes}
use Rattle.perf_files.specs.declared.event.Event.{Event}
use Rattle.perf_processes.specs.declared.change.Change.{Change}
use Rattle.perf_processes.specs.declared.change.Change.TheVariants.{Named, Executed}
use Rattle.fold_stacks.specs.FoldingStates.{FoldingState}
use Rattle.fold_stacks.specs.Foldings.{IsOfEvent}
use Rattle.fold_stacks.specs.Kept.{KeepsNumbers}

-- the number of the name in a change
abbrev pub name_number : Option Change → Option ℕ
name_number (Some (Named named)) = named.name
name_number (Some (Executed named)) = named.name
name_number _ = None

-- Names keep their numbers, and a number in a change is that of the name in its record.
abbrev pub IsNamed : Attributes → RecordParts → List (List ℕ) → List (List ℕ) → Option Change → Type 0
IsNamed attributes found old new change =
    KeepsNumbers old new
    × IfSome (name_number change) (λ number. IfOk (command_of attributes found) (λ command. slice_get new number ≡ Some command.name))

-- The same of the names of threads, from one state to the next.
abbrev pub NamesThread : Attributes → RecordParts → FoldingState → FoldingState → Option Change → Type 0
NamesThread attributes found old new change = IsNamed attributes found old.comms.names new.comms.names change

-- The same by the event that the record is of.
abbrev pub SaysName : List Event → RecordParts → FoldingState → FoldingState → Option Change → Type 0
SaysName events found old new change = IsOfEvent events found (λ index event. NamesThread event.attributes found old new change)
