-- The callback that reads the stack, as one partial map from addresses to words.
use Rattle.std.specs.Prelude.{ℕ, ◌≡◌, ◌<◌, ◌^◌, List, [], ◌∷◌, Option, Some, None, Result, Ok, Err}

-- The words of the stack: the word at an address, None if it can't be read.
abbrev pub Words : Type 0
Words = ℕ → Option ℕ

-- What a read answers by these words.
abbrev pub read_answer : Option ℕ → Result ℕ (Unit {0})
read_answer (Some word) = Ok word
read_answer None = Err tt

-- From the state `first`, reads at these addresses, one after the other, may leave `last`.
abbrev pub Leads : {S : Type 0} → (S → ℕ → Result ℕ (Unit {0}) → S → Type 0) → S → List ℕ → S → Type 0
Leads step first [] last = first ≡ last
Leads {S} step first (at ∷ more) last =
    (at < 2 ^ 64) × (r : Result ℕ (Unit {0})) × (mid : S) × step first at r mid × Leads step mid more last

-- The callback in the state `first` answers by these words, now and after any reads.
abbrev pub AnswersBy : {S : Type 0} → (S → ℕ → Result ℕ (Unit {0}) → S → Type 0) → S → Words → Type 0
AnswersBy {S} step first words =
    (reads : List ℕ) (last : S) → Leads step first reads last
    → (at : ℕ) (r : Result ℕ (Unit {0})) (next : S) → at < 2 ^ 64 → step last at r next → r ≡ read_answer (words at)

-- A call that may read the stack took the callback from `old` to `new`. Over all words that the callback answered by,
-- the statement holds, and it answers by these words still.
pub record OverWords {S : Type 0} (step : S → ℕ → Result ℕ (Unit {0}) → S → Type 0) (old new : S)
    (Statement : Words → Type 0) : Type 0 where
  pub said : (words : Words) → AnswersBy step old words → Statement words
  pub still : (words : Words) → AnswersBy step old words → AnswersBy step new words

-- A call took the callback from `old` to `new`. Over all words that the callback answered by, it read exactly these
-- addresses, one after the other.
abbrev pub ReadsOverWords : {S : Type 0} → (S → ℕ → Result ℕ (Unit {0}) → S → Type 0) → S → S → (Words → List ℕ) → Type 0
ReadsOverWords step old new reads = (words : Words) → AnswersBy step old words → Leads step old (reads words) new
