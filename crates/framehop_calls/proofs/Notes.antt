-- Reads of a sample that note the first word of which nothing is known.
use Rattle.std.proofs.Common.{◌≡◌, ◌∙◌, ℕ, Bool, true, false, List, [], ◌∷◌, Option, Some, None, Result, Ok, Err, ap, refl, sym, subst, if◌then◌else◌}
use Rattle.std.specs.Prelude.{◌≢◌, IfSome, OnOk}
use Rattle.std.specs.List.{AllPass}
use Rattle.std.specs.Option.{option_or}
use Rattle.std.proofs.lemmas.List.Elements.{All-cons, All-nil}
use Rattle.framehop_registers.specs.Callback.{AnswersBy, Leads, Words}
use Rattle.framehop_unwinder.specs.HitReads.{ReadsIfKnown}
use Rattle.framehop_calls.specs.Samples.{first_unknown, is_known, words_of}
use Rattle.framehop_calls.specs.SampleSteps.{Knew, NotesUnknown}
use Rattle.framehop_calls.specs.declared.sample.Sample.{Sample}

module _ (sample : Sample) where
  -- nothing is noted only where nothing was, and something is known of the word
  none-noted : (wanted : Option ℕ) (at : ℕ) → first_unknown sample wanted at ≡ None → (wanted ≡ None) × (is_known sample at ≡ true)
  none-noted wanted at is = by (is_known sample at) refl wanted is
    where
      by : (b : Bool) → is_known sample at ≡ b → (w : Option ℕ) → (if b then w else option_or w (Some at)) ≡ None → (w ≡ None) × (is_known sample at ≡ true)
      by true known w none = (none, known)
      by false unknown None none = absurd cc
      by false unknown (Some x) none = absurd cc

  -- what is noted is unknown
  noted-unknown : (wanted : Option ℕ) (at : ℕ) → IfSome wanted (λ x. is_known sample x ≡ false)
      → IfSome (first_unknown sample wanted at) (λ x. is_known sample x ≡ false)
  noted-unknown wanted at before = by (is_known sample at) refl wanted before
    where
      by : (b : Bool) → is_known sample at ≡ b → (w : Option ℕ) → IfSome w (λ x. is_known sample x ≡ false)
          → IfSome (if b then w else option_or w (Some at)) (λ x. is_known sample x ≡ false)
      by true known w unknown = unknown
      by false is None unknown = is
      by false is (Some x) unknown = unknown

  -- what was read was known, unless an address is noted that is not
  pub knew : (known : Option (Words → List ℕ)) (wanted : Option ℕ) → NotesUnknown sample wanted known
      → (sample.asks ≢ 0 → IfSome wanted (λ at. is_known sample at ≡ true)) → Knew sample known
  knew None wanted notes only = tt
  knew (Some reads) wanted notes only = λ asks. by wanted notes.0 notes.1 (only asks)
    where
      by : (w : Option ℕ) → (w ≡ None → AllPass (is_known sample) (reads (words_of sample))) → IfSome w (λ at. is_known sample at ≡ false)
          → IfSome w (λ at. is_known sample at ≡ true) → AllPass (is_known sample) (reads (words_of sample))
      by None all unknown known = all refl
      by (Some at) all unknown known = absurd (let e : true ≡ false = sym known ∙ unknown in cc)

  -- a sample that doesn't ask says nothing of what was known
  pub unasked : (known : Option (Words → List ℕ)) → sample.asks ≡ 0 → Knew sample known
  unasked None none = tt
  unasked (Some reads) none = λ asks. absurd (asks none)

module _ {S Name : Type 0} (step : S → ℕ → Result ℕ (Unit {0}) → S → Type 0) (sample : Sample) (of : S → Sample) (wanted : S → Option ℕ) (name : S → Name)
    (stays : (state next : S) (at : ℕ) (r : Result ℕ (Unit {0})) → step state at r next → of next ≡ of state)
    (notes : (state next : S) (at : ℕ) (r : Result ℕ (Unit {0})) → step state at r next → wanted next ≡ first_unknown (of state) (wanted state) at)
    (names : (state next : S) (at : ℕ) (r : Result ℕ (Unit {0})) → step state at r next → name next ≡ name state) where
  noted : (state next : S) (at : ℕ) (r : Result ℕ (Unit {0})) → of state ≡ sample → step state at r next → wanted next ≡ first_unknown sample (wanted state) at
  noted state next at r is stepped = notes state next at r stepped ∙ ap (λ s. first_unknown s (wanted state) at) is

  all-known : (reads : List ℕ) (state last : S) → of state ≡ sample → Leads step state reads last → wanted last ≡ None
      → (wanted state ≡ None) × AllPass (is_known sample) reads
  all-known [] state last is same none = (ap wanted same ∙ none, All-nil (λ x. is_known sample x ≡ true))
  all-known (at ∷ more) state last is (fits, r, mid, stepped, rest) none =
      let later = all-known more mid last (stays state mid at r stepped ∙ is) rest none in
      let here = none-noted sample (wanted state) at (sym (noted state mid at r is stepped) ∙ later.0) in
      (here.0, All-cons (λ x. is_known sample x ≡ true) at more here.1 later.1)

  still-unknown : (reads : List ℕ) (state last : S) → of state ≡ sample → Leads step state reads last
      → IfSome (wanted state) (λ x. is_known sample x ≡ false) → IfSome (wanted last) (λ x. is_known sample x ≡ false)
  still-unknown [] state last is same before = subst (λ (s : S). IfSome (wanted s) (λ x. is_known sample x ≡ false)) same before
  still-unknown (at ∷ more) state last is (fits, r, mid, stepped, rest) before =
      still-unknown more mid last (stays state mid at r stepped ∙ is) rest
      (subst (λ (w : Option ℕ). IfSome w (λ x. is_known sample x ≡ false)) (sym (noted state mid at r is stepped)) (noted-unknown sample (wanted state) at before))

  still-named : (reads : List ℕ) (state last : S) → Leads step state reads last → name state ≡ name last
  still-named [] state last same = ap name same
  still-named (at ∷ more) state last (fits, r, mid, stepped, rest) = sym (names state mid at r stepped) ∙ still-named more mid last rest

  -- reads note the first word of which nothing is known, if it is known which they are; what is noted is left behind the loan
  pub notes_reads : (known : Option (Words → List ℕ)) (first last : S) (left : Option ℕ) → of first ≡ sample → AnswersBy step first (words_of sample)
      → ReadsIfKnown step first last known → wanted first ≡ None → (name first ≡ name last → left ≡ wanted last) → NotesUnknown sample left known
  notes_reads None first last left is answers read none leaves = tt
  notes_reads (Some reads) first last left is answers read none leaves =
      let leads = read (words_of sample) answers in
      let all = reads (words_of sample) in
      let same = leaves (still-named all first last leads) in (
        (λ nothing. (all-known all first last is leads (sym same ∙ nothing)).1),
        subst (λ (w : Option ℕ). IfSome w (λ x. is_known sample x ≡ false)) (sym same)
            (still-unknown all first last is leads (subst (λ (w : Option ℕ). IfSome w (λ x. is_known sample x ≡ false)) (sym none) tt)),
      )

-- what a fact gives if a call is done
pub on_ok : {A E : Type 0} (result : Result A E) (Given Found : Type 0) → (Given → Found) → OnOk result Given → OnOk result Found
on_ok (Ok a) Given Found gives given = gives given
on_ok (Err e) Given Found gives given = given
