-- Weights that were found are those of the record.
use Rattle.std.proofs.Common.{◌≡◌, ◌∙◌, ℕ, Bool, true, false, cond, List, Some, None, ap, sym}
use Rattle.std.specs.Prelude.{Ok}
use Rattle.fold_options.specs.declared.options.FoldOptions.{FoldOptions}
use Rattle.perf_files.specs.FieldResults.{FieldResult, and_then}
use Rattle.perf_files.specs.Samples.{SampleParts, sample_in}
use Rattle.perf_files.specs.declared.attributes.Attributes.{Attributes}
use Rattle.perf_files.specs.declared.fields.ThreadId.{ThreadId}
use Rattle.fold_stacks.specs.FoldingStates.{FoldingState, called_in}
use Rattle.fold_stacks.specs.Selections.{is_selected, weight_of}
use Rattle.fold_stacks.specs.Weights.{IsWeight, sample_weight, thread_of, weight_if}

-- what a sample that was read counts for, whose thread is called so
module _ (options : FoldOptions) (state : FoldingState) (event : List ℕ) (attributes : Attributes) (payload : List ℕ) (sample : SampleParts)
    (thread : ThreadId) (comm : List ℕ) (chosen : Bool) where
  weighed : Ok sample ≡ sample_in attributes payload → thread ≡ thread_of sample.head → comm ≡ called_in state thread
      → chosen ≡ is_selected options.selection thread comm event
      → IsWeight options state event attributes payload (cond chosen (Some (weight_of options.weights sample.head.period attributes.period)) None)
  unfolding sample_weight
  weighed read is called chosen_is =
      ap (λ (found : FieldResult SampleParts). and_then found (λ part. Ok (weight_if options (called_in state (thread_of part.head)) event attributes.period part.head))) (sym read)
      ∙ ap (λ (t : ThreadId). Ok (cond (is_selected options.selection t (called_in state t) event) (Some (weight_of options.weights sample.head.period attributes.period)) None)) (sym is)
      ∙ ap (λ (name : List ℕ). Ok (cond (is_selected options.selection thread name event) (Some (weight_of options.weights sample.head.period attributes.period)) None)) (sym called)
      ∙ ap (λ (b : Bool). Ok (cond b (Some (weight_of options.weights sample.head.period attributes.period)) None)) (sym chosen_is)

  -- it isn't selected
  pub passed-over : Ok sample ≡ sample_in attributes payload → thread ≡ thread_of sample.head → comm ≡ called_in state thread
      → chosen ≡ is_selected options.selection thread comm event → chosen ≡ false → IsWeight options state event attributes payload None
  passed-over read is called chosen_is fails =
      weighed read is called chosen_is ∙ ap (λ (b : Bool). Ok (cond b (Some (weight_of options.weights sample.head.period attributes.period)) None)) fails

  -- it is selected
  pub selected : (weight : ℕ) → Ok sample ≡ sample_in attributes payload → thread ≡ thread_of sample.head → comm ≡ called_in state thread
      → chosen ≡ is_selected options.selection thread comm event → chosen ≡ true
      → weight ≡ weight_of options.weights sample.head.period attributes.period → IsWeight options state event attributes payload (Some weight)
  selected weight read is called chosen_is passes weight_is =
      weighed read is called chosen_is ∙ ap (λ (b : Bool). Ok (cond b (Some (weight_of options.weights sample.head.period attributes.period)) None)) passes
      ∙ ap (λ (n : ℕ). Ok (Some n)) (sym weight_is)
