-- What laws say of the parts of an outcome that is an answer.
use Rattle.std.specs.Prelude.{ℕ, ◌≡◌, ◌≤◌, ◌<◌, ◌^◌, Bool, false, if◌then◌else◌}
use Rattle.framehop_rules.specs.Outcome.{Outcome, Answers}

-- The first part answers a value, and with it the second gives the answer.
abbrev pub BothAnswer : {A B : Type 0} → Outcome A → (A → Outcome B) → B → Type 0
BothAnswer {A} first next answer = (value : A) × (first ≡ Answers value) × (next value ≡ Answers answer)

-- If a test chooses between this outcome and another one, and the choice is an answer, the test failed and the other one
-- is the answer.
abbrev pub OnlyElseAnswers : {A : Type 0} → Outcome A → Type 0
OnlyElseAnswers {A} stopped =
    (stops : Bool) (other : Outcome A) (value : A) → (if stops then stopped else other) ≡ Answers value
    → (stops ≡ false) × (other ≡ Answers value)

-- An address that isn't below another one, and has 64 bits.
pub record IsAddressFrom (low high : ℕ) : Type 0 where
  pub not_below : low ≤ high
  pub fits : high < 2 ^ 64
