-- Callbacks that answer as one map of words.
use Rattle.std.proofs.Common.{◌≡◌, ℕ, ◌<◌, ◌^◌, List, [], ◌∷◌, Result, subst}
use Rattle.framehop_registers.specs.Callback.{Words, AnswersBy, read_answer, Leads}

-- what each read keeps, all reads keep
kept : {S : Type 0} (step : S → ℕ → Result ℕ (Unit {0}) → S → Type 0) (Keeps : S → Type 0)
    → ((state next : S) (at : ℕ) (r : Result ℕ (Unit {0})) → at < 2 ^ 64 → Keeps state → step state at r next → Keeps next)
    → (reads : List ℕ) (state last : S) → Keeps state → Leads step state reads last → Keeps last
kept step Keeps keeps [] state last holds same = subst Keeps same holds
kept step Keeps keeps (at ∷ more) state last holds (fits, r, mid, stepped, rest) =
    kept step Keeps keeps more mid last (keeps state mid at r fits holds stepped) rest

-- a callback that answers by words as long as something holds, which each read keeps, answers by them after any reads
pub answers_while : {S : Type 0} (step : S → ℕ → Result ℕ (Unit {0}) → S → Type 0) (state : S) (words : Words) (Keeps : S → Type 0) → Keeps state
    → ((state next : S) (at : ℕ) (r : Result ℕ (Unit {0})) → at < 2 ^ 64 → Keeps state → step state at r next → Keeps next)
    → ((state next : S) (at : ℕ) (r : Result ℕ (Unit {0})) → at < 2 ^ 64 → Keeps state → step state at r next → r ≡ read_answer (words at))
    → AnswersBy step state words
answers_while step state words Keeps holds keeps answers reads last leads at r next fits stepped =
    answers last next at r fits (kept step Keeps keeps reads state last holds leads) stepped
