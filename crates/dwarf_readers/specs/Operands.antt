-- The operands of an opcode: how the bytes after it are read, and what is made of them (DWARF 5, 7.7.1 and 7.24).
use Rattle.std.specs.Prelude.{ℕ, ◌==◌, List, [], ◌∷◌, Option, Some, None, Result, Ok, if◌then◌else◌}
use Rattle.dwarf_constants.specs.declared.error.Error.{Error}
use Rattle.dwarf_readers.specs.Stretch.{Stretch, ◌>>=◌}

-- how a value is read from the start of a stretch: the value and what is left, or an error
abbrev pub Parse : Type 0 → Type 0
Parse A = Stretch → Result (A × Stretch) Error

-- no operands
abbrev pub alone : {A : Type 0} → A → Parse A
alone value s = Ok (value, s)

-- one operand, and what is made of it
abbrev pub one : {A B : Type 0} → Parse A → (A → B) → Parse B
one operand make s = do
  value ← operand s
  Ok (make value.0, value.1)

-- two operands, and what is made of them
abbrev pub two : {A B C : Type 0} → Parse A → Parse B → (A → B → C) → Parse C
two first second make s = do
  value ← first s
  one second (make value.0) value.1

-- what the first row with an opcode has; number_of gives the number of a row's opcode
abbrev pub look_up : {Code A : Type 0} → (number_of : Code → ℕ) → ℕ → List (Code × A) → Option A
look_up number_of opcode [] = None
look_up number_of opcode ((code, x) ∷ rows) = if opcode == number_of code then Some x else look_up number_of opcode rows
