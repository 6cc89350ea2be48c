-- Which samples are counted, and what each counts for.
use Rattle.std.specs.Prelude.{◌≡◌, ℕ, if◌then◌else◌, List, [], slice_get, Option, Some, None, unwrap_or, option_map, Ok, Vec}
use Rattle.std.specs.Global.{Global}
use Rattle.fold_options.specs.declared.options.FoldOptions.{FoldOptions}
use Rattle.perf_files.specs.Events.{is_sample}
use Rattle.perf_files.specs.FieldResults.{FieldResult, and_then}
use Rattle.perf_files.specs.Records.{RecordParts}
use Rattle.perf_files.specs.Samples.{sample_in}
use Rattle.perf_files.specs.declared.attributes.Attributes.{Attributes}
use Rattle.perf_files.specs.declared.fields.ThreadId.{ThreadId}
use Rattle.perf_files.specs.declared.sample_head.SampleHead.{SampleHead}
use Rattle.fold_stacks.specs.FoldingStates.{FoldingState, called_in}
use Rattle.fold_stacks.specs.Foldings.{IsOfEvent}
use Rattle.fold_stacks.specs.Selections.{is_selected, weight_of}
use Rattle.fold_stacks.specs.declared.folding.RecordedEvents.{RecordedEvents}

-- the name of an event, and no bytes if it has none
abbrev pub event_name : List (Vec ℕ Global) → ℕ → List ℕ
event_name names index = unwrap_or (option_map (λ name. name.items) (slice_get names index)) []

-- the thread of a sample, of which both ids are 0 if it doesn't say
abbrev pub thread_of : SampleHead → ThreadId
thread_of head = unwrap_or head.thread (record { pid = 0; tid = 0 })

-- what a sample counts for whose thread is called so, of an event of this name and period; nothing if it isn't selected
abbrev pub weight_if : FoldOptions → List ℕ → List ℕ → ℕ → SampleHead → Option ℕ
weight_if options comm event period head =
    if is_selected options.selection (thread_of head) comm event then Some (weight_of options.weights head.period period) else None

-- what the sample in a payload counts for, if threads are called so
unfoldable pub sample_weight : FoldOptions → (ThreadId → List ℕ) → List ℕ → Attributes → List ℕ → FieldResult (Option ℕ)
sample_weight options called event attributes payload =
    and_then (sample_in attributes payload) (λ sample. Ok (weight_if options (called (thread_of sample.head)) event attributes.period sample.head))

-- what a record counts for: nothing if it isn't a sample
abbrev pub record_weight : FoldOptions → (ThreadId → List ℕ) → List ℕ → Attributes → RecordParts → FieldResult (Option ℕ)
record_weight options called event attributes found =
    if is_sample found.kind then sample_weight options called event attributes found.payload else Ok None

-- This is what the sample in a payload counts for, by the names of threads in a state.
abbrev pub IsWeight : FoldOptions → FoldingState → List ℕ → Attributes → List ℕ → Option ℕ → Type 0
IsWeight options state event attributes payload weight = sample_weight options (called_in state) event attributes payload ≡ Ok weight

-- This is what a record counts for, by the event that it is of.
abbrev pub SaysWeight : FoldOptions → RecordedEvents → FoldingState → RecordParts → Option ℕ → Type 0
SaysWeight options events state found weight =
    IsOfEvent events.events.now found (λ index event.
    record_weight options (called_in state) (event_name events.names.now index) event.attributes found ≡ Ok weight)
