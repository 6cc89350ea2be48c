-- The numbers of the names of functions by their symbols.
use Rattle.std.specs.Prelude.{◌≡◌, ℕ, bytes_eq, List, Option, Some, Vec}
use Rattle.std.specs.Global.{Global}
use Rattle.std.specs.Map.{lookup}
use Rattle.fold_stacks.specs.FrameNames.{HasName}
use Rattle.fold_stacks.specs.FrameTexts.{function_text}

-- the number at a symbol, if it is there
abbrev pub number_at : List (Vec ℕ Global × ℕ) → List ℕ → Option ℕ
number_at entries symbol = lookup (λ known. bytes_eq symbol known.items) entries

-- Each number of a symbol is that of its function's name.
abbrev pub SymbolsAreNamed : List (List ℕ) → List (Vec ℕ Global × ℕ) → Type 0
SymbolsAreNamed names entries =
    (symbol : List ℕ) (number : ℕ) → number_at entries symbol ≡ Some number → HasName names number (function_text symbol)
