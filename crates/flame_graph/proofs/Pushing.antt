-- A text that grows piece by piece.
use Rattle.std.proofs.Common.{◌≡◌, ◌++◌, ◌∙◌, ap, append_assoc, ℕ, List, Result, Ok, Err, OnOk}

-- a piece behind others
pub behind : (old first next before after : List ℕ) → before ≡ old ++ first → after ≡ before ++ next → after ≡ old ++ (first ++ next)
behind old first next before after e f = f ∙ ap (λ (t : List ℕ). t ++ next) e ∙ append_assoc old first next

-- the last piece, which a call may not have appended
pub last_behind : {X E : Type 0} (result : Result X E) (old first next before after : List ℕ) → before ≡ old ++ first
    → OnOk result (after ≡ before ++ next) → OnOk result (after ≡ old ++ (first ++ next))
last_behind (Ok x) old first next before after e f = behind old first next before after e f
last_behind (Err x) old first next before after e f = tt
