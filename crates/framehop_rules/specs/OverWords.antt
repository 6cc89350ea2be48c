-- What a call that may read the stack gives, over all words that the callback answers by.
use Rattle.std.specs.Prelude.{ℕ, ◌≡◌, Option, Result}
use Rattle.framehop_registers.specs.Callback.{Words, OverWords}
use Rattle.framehop_registers.specs.declared.error.Error.{Error}
use Rattle.framehop_rules.specs.Outcome.{Outcome, Caller, IsStep}

-- A call took the callback from `old` to `new`. Over all words that the callback answered by, its value is what these words
-- give.
abbrev pub IsOverWords : {S A : Type 0} → (S → ℕ → Result ℕ (Unit {0}) → S → Type 0) → (old new : S) → A → (Words → A) → Type 0
IsOverWords step old new value meaning = OverWords step old new (λ words. value ≡ meaning words)

-- A step took the callback from `old` to `new`, and the registers from `before` to `after`. Over all words that the callback
-- answered by, it is a step of the outcome that these words give.
abbrev pub StepsOverWords : {S Registers : Type 0} → (S → ℕ → Result ℕ (Unit {0}) → S → Type 0) → (old new : S)
    → (before after : Registers) → Result (Option ℕ) Error → (Words → Outcome (Caller Registers)) → Type 0
StepsOverWords step old new before after result meaning =
    OverWords step old new (λ words. IsStep result before after (meaning words))
