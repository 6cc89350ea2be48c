-- Tables of abbreviations that code 0 closes (DWARF 5, 7.5.3), and not the section's end.
use Rattle.std.specs.Prelude.{◌≡◌, ℕ, IsTrue, List, length, ◌==◌, ◌&&◌, Bool, true, false, not, Some, None, Result, Ok, Err}
use Rattle.dwarf_constants.specs.declared.error.Error.{Error}
use Rattle.dwarf_read_core.specs.AbbreviationTable.{next_declaration}
use Rattle.dwarf_readers.specs.More.{IsLasting, extended_stretch}
use Rattle.dwarf_readers.specs.Stretch.{Stretch, behind}
use Rattle.dwarf_readers.specs.Remainder.{size_of}
use Rattle.list_laws.specs.Items.{Answer, rest_of}

-- the answer is that the items end
abbrev pub is_end : {A : Type 0} → Answer Stretch A Error → Bool
is_end (Ok None) = true
is_end (Ok (Some item)) = false
is_end (Err fault) = false

-- a stretch begins with code 0
abbrev pub is_code_0 : Stretch → Bool
is_code_0 s = not (length s.bytes == 0) && is_end (next_declaration s)

-- code 0 closes the table at a stretch's start: it follows the last declaration
unfoldable pub is_closed_at : Stretch → Bool
is_closed_at s = is_code_0 (rest_of size_of next_declaration s)

-- code 0 closes the table at an offset
abbrev pub is_closed_in : ℕ → Stretch → Bool
is_closed_in offset section = is_closed_at (behind offset section)

-- An answer stays if this holds, and an error stays unless it was that the bytes end.
abbrev pub StaysIf : {A : Type 0} → Type 0 → Result A Error → Result A Error → Type 0
StaysIf Condition (Ok x) after = Condition → after ≡ Ok x
StaysIf Condition (Err e) after = IsLasting e → after ≡ Err e

-- What is read stays wherever this test holds, whatever bytes follow.
abbrev pub IsSteadyIf : {A : Type 0} → (Stretch → Bool) → (Stretch → Result A Error) → Type 0
IsSteadyIf test read = (more : List ℕ) (s : Stretch)
    → StaysIf (IsTrue (test s)) (read s) (read (extended_stretch more s))
