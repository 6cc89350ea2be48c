-- What a record changes of processes.
use Rattle.std.specs.Prelude.{◌≡◌, ℕ, List, slice_get, Option, Some, None, IsSomeAnd, Ok, IsOkAnd}
use Rattle.perf_files.specs.Events.{event_of}
use Rattle.perf_files.specs.Records.{RecordParts}
use Rattle.perf_files.specs.declared.attributes.Attributes.{Attributes}
use Rattle.perf_files.specs.declared.event.Event.{Event}
use Rattle.perf_files.specs.declared.record.RecordKind.{RecordKind}
use Rattle.perf_processes.specs.Processes.{ProcessState, after_change}
use Rattle.perf_processes.specs.declared.change.Change.{Change}
use Rattle.fold_stacks.specs.Comms.{KeepsEnded}
use Rattle.fold_stacks.specs.FoldingStates.{FoldingState}
use Rattle.fold_stacks.specs.RecordChanges.{change_by, number_in}

-- processes after a change, if there is one
abbrev pub after_if : Option Change → ProcessState → ProcessState
after_if (Some change) state = after_change change state
after_if None state = state

-- What threads were called is kept by a change, if there is one.
abbrev pub KeepsEndedIf : Option Change → FoldingState → FoldingState → Type 0
KeepsEndedIf (Some change) old new = KeepsEnded change old.processes old.comms.ended new.comms.ended
KeepsEndedIf None old new = new.comms.ended ≡ old.comms.ended

-- This is what a record of this kind changes, by the attributes of its event.
abbrev pub IsChange : RecordKind → Attributes → RecordParts → Option Change → Type 0
IsChange kind attributes found change = change_by kind attributes found (number_in change) ≡ Ok change

-- A record is of an event, of which a fact holds.
abbrev pub IsOfEvent : List Event → RecordParts → (ℕ → Event → Type 0) → Type 0
IsOfEvent events found P = IsOkAnd (event_of events found) (λ index. IsSomeAnd (slice_get events index) (P index))

-- This is what a record changes, by the attributes of the event that it is of.
abbrev pub SaysChange : List Event → RecordParts → Option Change → Type 0
SaysChange events found change = IsOfEvent events found (λ index event. IsChange found.kind event.attributes found change)
