-- The counts and the weights of a whole recording.
use Rattle.std.proofs.Common.{◌≡◌, ◌∙◌, ℕ, List, [], ◌∷◌, ◌++◌, map, refl, sym, ap, subst, Option, Some, None, Result, Ok, Err}
use Rattle.std.specs.Prelude.{slice_get, option_map, IsOkAnd, IsSomeAnd}
use Rattle.std.specs.List.{cons_option}
use Rattle.std.specs.Result.{result_unwrap_or}
use Rattle.fold_options.specs.declared.options.FoldOptions.{FoldOptions}
use Rattle.folded_stacks.specs.Lines.{Line, all_counted}
use Rattle.perf_files.specs.Events.{event_of}
use Rattle.perf_files.specs.FieldResults.{FieldResult}
use Rattle.perf_files.specs.Records.{RecordParts}
use Rattle.perf_files.specs.declared.error.EventError.{EventError}
use Rattle.perf_files.specs.declared.event.Event.{Event}
use Rattle.perf_files.specs.declared.fields.ThreadId.{ThreadId}
use Rattle.fold_stacks.specs.FoldingStates.{FoldingState, called_in, nothing_folded}
use Rattle.fold_stacks.specs.Foldings.{IsChange}
use Rattle.fold_stacks.specs.KeptNumbers.{NamesThread}
use Rattle.fold_stacks.specs.Recordings.{AreTaken, IsTaken, SamplesAreCounted, event_at, names_after, samples_in, weight_by, weights_by}
use Rattle.fold_stacks.specs.Stacks.{numbers_if}
use Rattle.fold_stacks.specs.Taken.{change_in, counted_if, counted_in, weight_in}
use Rattle.fold_stacks.specs.ThreadNames.{ThreadNames, no_thread_names}
use Rattle.fold_stacks.specs.Weights.{event_name, record_weight}
use Rattle.fold_stacks.specs.declared.folding.RecordedEvents.{RecordedEvents}
use Rattle.fold_stacks.specs.declared.taken.Taken.{Taken}
use Rattle.fold_stacks.proofs.NamesByRecords.{AreNames, after-record, called-alike, no-names}

-- ---- the event of a record

module _ (index : ℕ) (P : ℕ → Event → Type 0) where
  some-event : (found : Option Event) → IsSomeAnd found (P index) → (event : ℕ × Event) × (option_map (λ (e : Event). (index, e)) found ≡ Some event)
  some-event None there = absurd there
  some-event (Some e) there = ((index, e), refl)

  at-some : (found : Option Event) (event : ℕ × Event) → option_map (λ (e : Event). (index, e)) found ≡ Some event → IsSomeAnd found (P index) → P event.0 event.1
  at-some None event is there = absurd there
  at-some (Some e) event is there = let same : (index, e) ≡ event = cc in subst (λ (both : ℕ × Event). P both.0 both.1) same there

module _ (events : List Event) (P : ℕ → Event → Type 0) where
  has-event : (answer : Result ℕ EventError) → IsOkAnd answer (λ index. IsSomeAnd (slice_get events index) (P index)) → (event : ℕ × Event) × (event_at events answer ≡ Some event)
  has-event (Ok index) there = some-event index P (slice_get events index) there
  has-event (Err error) there = absurd there

  at-event : (answer : Result ℕ EventError) (event : ℕ × Event) → event_at events answer ≡ Some event → IsOkAnd answer (λ index. IsSomeAnd (slice_get events index) (P index))
      → P event.0 event.1
  at-event (Ok index) event is there = at-some index P (slice_get events index) event is there
  at-event (Err error) event is there = absurd there

-- ---- one record

counted-next : (sample : Option Line) (samples lines : List Line) → all_counted (cons_option sample samples) lines ≡ all_counted samples (counted_if sample lines)
counted-next None samples lines = refl
counted-next (Some sample) samples lines = refl

weights-next : (sample : Option Line) (samples : List Line)
    → map (λ (line : Line). line.count) (cons_option sample samples) ≡ numbers_if (option_map (λ (line : Line). line.count) sample) ++ map (λ (line : Line). line.count) samples
weights-next None samples = refl
weights-next (Some sample) samples = refl

module _ (options : FoldOptions) (events : RecordedEvents) where
  names-next : (found : RecordParts) (taken : Taken) (old new : FoldingState) (names : ThreadNames) → IsTaken options events found taken old new → AreNames old names
      → AreNames new (names_after events.events.now found names)
  names-next found taken old new names is were =
      let answer = event_of events.events.now found in
      let says : ℕ → Event → Type 0 = λ index event. IsChange found.kind event.attributes found (change_in taken) in
      let has : ℕ → Event → Type 0 = λ index event. NamesThread event.attributes found old new (change_in taken) in
      let event = has-event events.events.now says answer is.change in
      let named : NamesThread event.0.1.attributes found old new (change_in taken) = at-event events.events.now has answer event.0 event.1 is.names in
      rw event.1
      (after-record old new names named.0 were found.kind event.0.1.attributes found (change_in taken)
      (at-event events.events.now says answer event.0 event.1 is.change) is.processes is.ended named.1)

  weight-next : (found : RecordParts) (taken : Taken) (old new : FoldingState) (names : ThreadNames) → IsTaken options events found taken old new → AreNames old names
      → weight_in taken ≡ weight_by options events names found
  weight-next found taken old new names is were =
      let answer = event_of events.events.now found in
      let says : ℕ → Event → Type 0 = λ index event. record_weight options (called_in old) (event_name events.names.now index) event.attributes found ≡ Ok (weight_in taken) in
      let event = has-event events.events.now says answer is.weight in
      let weight : record_weight options (called_in old) (event_name events.names.now event.0.0) event.0.1.attributes found ≡ Ok (weight_in taken) =
      at-event events.events.now says answer event.0 event.1 is.weight in
      rw event.1
      (ap (λ (read : FieldResult (Option ℕ)). result_unwrap_or read None) (sym weight)
      ∙ ap (λ (called : ThreadId → List ℕ). result_unwrap_or (record_weight options called (event_name events.names.now event.0.0) event.0.1.attributes found) None)
      (called-alike old names were))

  -- ---- all records

  all-taken : (steps : List (RecordParts × Taken)) (old new : FoldingState) (names : ThreadNames) → AreTaken options events steps old new → AreNames old names
      → (new.stacks.counts ≡ all_counted (samples_in steps) old.stacks.counts)
      × (map (λ (line : Line). line.count) (samples_in steps) ≡ weights_by options events (map (λ (step : RecordParts × Taken). step.0) steps) names)
  all-taken [] old new names run were = (ap (λ (state : FoldingState). state.stacks.counts) run, refl)
  all-taken (step ∷ steps) old new names run were =
      let rest = all-taken steps run.0 new (names_after events.events.now step.0 names) run.2 (names-next step.0 step.1 old run.0 names run.1 were) in (
        rest.0 ∙ ap (λ (lines : List Line). all_counted (samples_in steps) lines) run.1.counts ∙ sym (counted-next (counted_in step.1) (samples_in steps) old.stacks.counts),
        weights-next (counted_in step.1) (samples_in steps)
            ∙ ap (λ (weight : Option ℕ). numbers_if weight ++ map (λ (line : Line). line.count) (samples_in steps)) (weight-next step.0 step.1 old run.0 names run.1 were)
            ∙ ap (λ (weights : List ℕ). numbers_if (weight_by options events names step.0) ++ weights) rest.1,
      )

pub samples-are-counted : SamplesAreCounted
samples-are-counted options events steps state run = all-taken options events steps nothing_folded state no_thread_names run no-names
