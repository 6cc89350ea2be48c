-- The lines of findings in the rows of FDEs.
use Rattle.std.specs.Prelude.{ℕ, ◌+◌, List, [], ◌∷◌, ◌++◌, length, codes}
use Rattle.dwarf_constants.specs.Error.{variant_name}
use Rattle.json_program.specs.Lines.{hexadecimal, line}
use Rattle.backtrace_lint.specs.Lines.{Place, count_text}
use Rattle.backtrace_lint.specs.declared.row_lines.FailedFde.{FailedFde}

-- where a row starts
abbrev pub start_text : (start : ℕ) → List ℕ
start_text start = line (codes "from " ++ hexadecimal start)

-- how many rows no rule says, and where the first starts
abbrev pub unsaids_text : Place → List ℕ → List ℕ
unsaids_text place [] = []
unsaids_text place (start ∷ starts) = count_text place (codes "rows without an unwind rule") (length starts + 1) ++ start_text start

-- an FDE whose rows end with an error
abbrev pub failed_text : FailedFde → List ℕ
failed_text fde = codes "at " ++ hexadecimal fde.offset ++ codes ": " ++ line (variant_name fde.error)

-- how many there are, and the first
abbrev pub faileds_text : Place → List FailedFde → List ℕ
faileds_text place [] = []
faileds_text place (fde ∷ fdes) = count_text place (codes "FDEs whose rows fail") (length fdes + 1) ++ failed_text fde
