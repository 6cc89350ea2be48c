-- A text that is written piece by piece, and may lack a piece.
use Rattle.std.specs.Prelude.{◌≡◌, ℕ, List, ◌++◌, Option, Some, None, IfSome, option_map}

-- A text, unless something failed.
abbrev pub text_unless : {E : Type 0} → Option E → List ℕ → Option (List ℕ)
text_unless None text = Some text
text_unless (Some _) _ = None

-- If no piece is missing now, none was before, and these bytes were added.
abbrev pub Adds : Option (List ℕ) → Option (List ℕ) → List ℕ → Type 0
Adds old new bytes = IfSome new (λ text. option_map (λ before. before ++ bytes) old ≡ Some text)
