-- Lists that grow by one part after the other.
use Rattle.std.proofs.Common.{◌≡◌, List, [], ◌++◌, refl, ap, sym, ◌∙◌, inl, inr, append_assoc}
use Rattle.std.specs.Prelude.{◌⊎◌, Result, Ok, Err}
use Rattle.std.proofs.lemmas.List.{append-nil}
use Rattle.elf_files.specs.Bytes.{ElfResult}
use Rattle.core_files.specs.declared.error.CoreError.TheVariants.{OutOfMemory}
use Rattle.core_files.specs.declared.error.CoreError.{CoreError}
use Rattle.core_files.specs.Refusals.{CoreResult, result_and_then, then_more, by_elf}

-- what is done, and then what is left
abbrev pub after : {A E : Type 0} → List A → Result (List A) E → Result (List A) E
after done left = result_and_then left (λ more. Ok (done ++ more))

module _ {A E : Type 0} where
  pub after-none : (left : Result (List A) E) → left ≡ after [] left
  after-none (Ok more) = refl
  after-none (Err error) = refl

  pub after-end : (whole : Result (List A) E) (done : List A) → whole ≡ after done (Ok []) → whole ≡ Ok done
  after-end whole done is = is ∙ ap Ok (append-nil done)

  step : (done some : List A) (others : Result (List A) E) → after done (then_more (Ok some) others) ≡ after (done ++ some) others
  step done some (Ok more) = ap Ok (sym (append_assoc done some more))
  step done some (Err error) = refl

  pub after-step : (whole first others : Result (List A) E) (done some new : List A) → whole ≡ after done (then_more first others) → first ≡ Ok some → new ≡ done ++ some → whole ≡ after new others
  after-step whole first others done some new is at grown = is ∙ ap (λ (r : Result (List A) E). after done (then_more r others)) at ∙ step done some others ∙ ap (λ (l : List A). after l others) (sym grown)

  pub after-fail : (whole first others : Result (List A) E) (done : List A) (error : E) → whole ≡ after done (then_more first others) → first ≡ Err error → whole ≡ Err error
  after-fail whole first others done error is at = is ∙ ap (λ (r : Result (List A) E). after done (then_more r others)) at

-- by a call that appends
module _ {A : Type 0} (whole first others : CoreResult (List A)) (old : List A) (is : whole ≡ after old (then_more first others)) where
  pub grown : (new : List A) → (more : List A) × (first ≡ Ok more) × (new ≡ old ++ more) → whole ≡ after new others
  grown new added = after-step whole first others old added.0 new is added.1 added.2

  pub failed : (error : CoreError) → (error ≡ OutOfMemory) ⊎ (first ≡ Err error) → (error ≡ OutOfMemory) ⊎ (whole ≡ Err error)
  failed error (inl memory) = inl memory
  failed error (inr said) = inr (after-fail whole first others old error is said)

pub elf-more : {A : Type 0} (first others : ElfResult (List A)) → by_elf (then_more first others) ≡ then_more (by_elf first) (by_elf others)
elf-more (Ok some) (Ok more) = refl
elf-more (Ok some) (Err error) = refl
elf-more (Err error) others = refl
