-- Texts that grow at their ends.
use Rattle.std.proofs.Common.{◌≡◌, ℕ, List, ◌++◌, ap, ◌∙◌, append_assoc}

-- one more part after those so far
pub then : (old t u a b : List ℕ) → t ≡ old ++ a → u ≡ t ++ b → u ≡ old ++ (a ++ b)
then old t u a b first next = next ∙ ap (λ (x : List ℕ). x ++ b) first ∙ append_assoc old a b

-- a part is another's equal
pub as_part : (old t a b : List ℕ) → t ≡ old ++ a → a ≡ b → t ≡ old ++ b
as_part old t a b is same = is ∙ ap (λ (x : List ℕ). old ++ x) same
