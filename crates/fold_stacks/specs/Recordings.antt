-- Whole recordings: records that are taken one after another.
use Rattle.std.specs.Prelude.{◌≡◌, ℕ, List, [], ◌∷◌, ◌++◌, slice_get, map, Option, None, option_map, Result, Ok, Err}
use Rattle.std.specs.List.{filter_map}
use Rattle.std.specs.Option.{option_map_or}
use Rattle.std.specs.Result.{result_unwrap_or}
use Rattle.fold_options.specs.declared.options.FoldOptions.{FoldOptions}
use Rattle.folded_stacks.specs.Lines.{Line, all_counted}
use Rattle.perf_files.specs.Events.{event_of}
use Rattle.perf_files.specs.Records.{RecordParts}
use Rattle.perf_files.specs.declared.error.EventError.{EventError}
use Rattle.perf_files.specs.declared.event.Event.{Event}
use Rattle.fold_stacks.specs.FoldingStates.{FoldingState, nothing_folded}
use Rattle.fold_stacks.specs.Foldings.{KeepsEndedIf, SaysChange, after_if}
use Rattle.fold_stacks.specs.KeptNumbers.{SaysName}
use Rattle.fold_stacks.specs.Stacks.{numbers_if}
use Rattle.fold_stacks.specs.Taken.{change_in, counted_if, counted_in, weight_in}
use Rattle.fold_stacks.specs.ThreadNames.{ThreadNames, called_by, names_by, no_thread_names}
use Rattle.fold_stacks.specs.Weights.{SaysWeight, event_name, record_weight}
use Rattle.fold_stacks.specs.declared.folding.RecordedEvents.{RecordedEvents}
use Rattle.fold_stacks.specs.declared.taken.Taken.{Taken}

-- ---- records that are taken

-- What `Folding::take` takes of a record, from the state before to the one after.
pub record IsTaken (options : FoldOptions) (events : RecordedEvents) (found : RecordParts) (taken : Taken) (old new : FoldingState) : Type 0 where
  pub change : SaysChange events.events.now found (change_in taken)
  pub processes : new.processes ≡ after_if (change_in taken) old.processes
  pub ended : KeepsEndedIf (change_in taken) old new
  pub names : SaysName events.events.now found old new (change_in taken)
  pub counts : new.stacks.counts ≡ counted_if (counted_in taken) old.stacks.counts
  pub weight : SaysWeight options events old found (weight_in taken)

-- Records are taken one after another, each with what is taken of it.
abbrev pub AreTaken : FoldOptions → RecordedEvents → List (RecordParts × Taken) → FoldingState → FoldingState → Type 0
AreTaken options events [] old new = new ≡ old
AreTaken options events (step ∷ steps) old new =
    (next : FoldingState) × IsTaken options events step.0 step.1 old next × AreTaken options events steps next new

-- the samples that are counted
abbrev pub samples_in : List (RecordParts × Taken) → List Line
samples_in steps = filter_map (λ step. counted_in step.1) steps

-- ---- the same by the records alone

-- the event with an index, and the index
abbrev pub event_at : List Event → Result ℕ EventError → Option (ℕ × Event)
event_at events (Ok index) = option_map (λ event. (index, event)) (slice_get events index)
event_at events (Err error) = None

-- what a record counts for, if threads have these names
abbrev pub weight_by : FoldOptions → RecordedEvents → ThreadNames → RecordParts → Option ℕ
weight_by options events names found =
    option_map_or (λ (event : ℕ × Event).
    result_unwrap_or (record_weight options (called_by names) (event_name events.names.now event.0) event.1.attributes found) None)
    (event_at events.events.now (event_of events.events.now found)) None

-- the names of threads after a record
abbrev pub names_after : List Event → RecordParts → ThreadNames → ThreadNames
names_after events found names =
    option_map_or (λ (event : ℕ × Event). result_unwrap_or (names_by found.kind event.1.attributes found names) names)
    (event_at events (event_of events found)) names

-- what the samples of records count for, one after another, by the names that the records before each say
abbrev pub weights_by : FoldOptions → RecordedEvents → List RecordParts → ThreadNames → List ℕ
weights_by options events [] names = []
weights_by options events (found ∷ others) names =
    numbers_if (weight_by options events names found) ++ weights_by options events others (names_after events.events.now found names)

-- After a recording the counts are those of its samples, each with its weight.
abbrev pub SamplesAreCounted : Type 0
SamplesAreCounted = (options : FoldOptions) (events : RecordedEvents) (steps : List (RecordParts × Taken)) (state : FoldingState)
    → AreTaken options events steps nothing_folded state
    → (state.stacks.counts ≡ all_counted (samples_in steps) [])
    × (map (λ sample. sample.count) (samples_in steps) ≡ weights_by options events (map (λ step. step.0) steps) no_thread_names)
