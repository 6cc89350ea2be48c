-- The bytes of an expression, by its offset and length (DWARF 5, 6.4.2).
use Rattle.std.specs.Prelude.{ℕ, Result, Ok}
use Rattle.dwarf_constants.specs.declared.error.Error.{Error}
use Rattle.dwarf_frame_rows.specs.declared.expression.UnwindExpression.{UnwindExpression}
use Rattle.dwarf_readers.specs.Stretch.{Stretch, ◌>>=◌, behind_at, split_at}

-- as many bytes of the section as the length says, from the offset on
abbrev pub expression_in : Stretch → ℕ → ℕ → Result Stretch Error
expression_in section offset length = do
  rest ← behind_at offset section
  parts ← split_at length rest
  Ok parts.0

-- the bytes of an expression in its section; value gives offsets and lengths as numbers
abbrev pub expression_bytes : {O : Type 0} → (O → ℕ) → Stretch → UnwindExpression O → Result Stretch Error
expression_bytes value section expression = expression_in section (value expression.offset) (value expression.length)
