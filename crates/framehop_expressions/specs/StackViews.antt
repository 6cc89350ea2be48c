-- The stack of an evaluation, as the contracts of private functions see it.
use Rattle.std.specs.Prelude.{ℕ, ◌≡◌, List, Option, Some, Result, Ok, Err}
use Rattle.dwarf_constants.specs.declared.error.Error.{Error}
use Rattle.dwarf_expressions.specs.Effects.{Stack, stack_within}

-- how many values a stack has room for
abbrev pub most : Option ℕ
most = Some 64

-- A stack became the expected one, if there is room for it, or an operation failed with the expected error.
abbrev pub Becomes : Stack → Result (Unit {0}) Error → List ℕ → Type 0
Becomes expected (Ok _) new = stack_within most expected ≡ Ok new
Becomes expected (Err e) new = stack_within most expected ≡ Err e
