-- Texts of findings as contracts see them.
use Rattle.std.specs.Prelude.{◌≡◌, ℕ, List, Result, Ok, Err, Vec}
use Rattle.std.specs.Global.{Global}
use Rattle.frame_table_files.specs.declared.error.FileError.{FileError}

-- This is the text, or why there is none.
abbrev pub IsLint : Result (List ℕ) FileError → Result (Vec ℕ Global) FileError → Type 0
IsLint lint (Ok text) = lint ≡ Ok text.items
IsLint lint (Err refusal) = lint ≡ Err refusal
