-- What laws say of calls that may read the stack.
use Rattle.std.specs.Prelude.{ℕ, ◌≡◌, ◌<◌, ◌^◌, Result}
use Rattle.framehop_registers.specs.Callback.{Words, read_answer, OverWords}

-- Over each map of words, the one statement follows from the other.
abbrev pub Follows : (from : Words → Type 0) → (Words → Type 0) → Type 0
Follows From Statement = (words : Words) → From words → Statement words

-- Of a call that reads one word, a statement holds that follows from what the read answers.
abbrev pub SaysOneRead : {S : Type 0} → (S → ℕ → Result ℕ (Unit {0}) → S → Type 0) → (Words → Type 0) → Type 0
SaysOneRead {S} step Statement =
    (old new : S) (at : ℕ) (r : Result ℕ (Unit {0})) → at < 2 ^ 64 → step old at r new
    → ((words : Words) → r ≡ read_answer (words at) → Statement words) → OverWords step old new Statement

-- Of two calls, one after the other, a statement holds that follows from what both say.
abbrev pub SaysTwoCalls : {S : Type 0} → (S → ℕ → Result ℕ (Unit {0}) → S → Type 0) → (First Second Statement : Words → Type 0)
    → Type 0
SaysTwoCalls {S} step First Second Statement =
    (old mid new : S) → OverWords step old mid First → OverWords step mid new Second
    → ((words : Words) → First words → Second words → Statement words) → OverWords step old new Statement
