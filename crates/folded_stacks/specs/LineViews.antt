-- Lines as contracts see them.
use Rattle.std.specs.Prelude.{ℕ, ◌≡◌, List, map, Vec}
use Rattle.std.specs.Global.{Global}
use Rattle.folded_stacks.specs.Lines.{Line, with_samples}
use Rattle.folded_stacks.specs.declared.lines.FoldedLine.{FoldedLine}

-- a line
abbrev pub line_seen : FoldedLine → Line
line_seen line = record { stack = line.stack.items; count = line.count }

-- a stack with its count
abbrev pub entry_seen : Vec ℕ Global × ℕ → Line
entry_seen entry = record { stack = entry.0.items; count = entry.1 }

-- these samples of a stack, by its text, are counted among entries
abbrev pub CountsText : List ℕ → ℕ → List (Vec ℕ Global × ℕ) → List (Vec ℕ Global × ℕ) → Type 0
CountsText text samples old new = map entry_seen new ≡ with_samples text samples (map entry_seen old)
