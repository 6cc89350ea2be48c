-- Values, or why fields give none.
use Rattle.std.specs.Prelude.{Result, Ok, Err}
use Rattle.perf_files.specs.declared.error.FieldError.{FieldError}

-- A value, or why there is none.
abbrev pub FieldResult : Type 0 → Type 0
FieldResult A = Result A FieldError

-- The first part, and then the second by what the first gave.
abbrev pub and_then : {A B : Type 0} → FieldResult A → (A → FieldResult B) → FieldResult B
and_then (Ok value) next = next value
and_then (Err error) next = Err error
