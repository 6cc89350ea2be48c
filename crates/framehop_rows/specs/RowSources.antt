-- What rows are evaluated by: in whole numbers, or as a step evaluates them.
use Rattle.std.specs.Prelude.{ℕ, ◌-◌, ◌^◌, ℤ, pos, negsuc, ◌+ℤ◌, Option, Some, None, nat_lt, if◌then◌else◌}
use Rattle.dwarf_readers.specs.Stretch.{Stretch}
use Rattle.dwarf_frame_rows.specs.declared.expression.UnwindExpression.{UnwindExpression}
use Rattle.dwarf_frame_rows.specs.Expressions.{expression_in}
use Rattle.framehop_registers.specs.Callback.{Words}
use Rattle.framehop_rows.specs.Columns.{Sources}
use Rattle.framehop_rows.specs.ExpressionValue.{RegisterValues, expression_value}

-- a number from 0 to below 2^64
abbrev pub in_range : ℤ → Option ℕ
in_range (pos n) = if nat_lt n (2 ^ 64) then Some n else None
in_range (negsuc n) = None

-- a base plus an offset
abbrev pub plus : ℕ → ℤ → Option ℕ
plus base offset = in_range (pos base +ℤ offset)

-- what a row that an unwind rule says is evaluated by: none of its parts is an expression
abbrev pub whole_sources : RegisterValues → Sources
whole_sources registers = record { sum = plus; registers = registers; value = λ expression. None }

-- a number from 0 to below 2^63
abbrev pub in_half : ℤ → Option ℕ
in_half (pos n) = if nat_lt n (2 ^ 63) then Some n else None
in_half (negsuc n) = None

-- a base plus an offset, both the base and the sum from 0 to below 2^63
abbrev pub sum_of : ℕ → ℤ → Option ℕ
sum_of base offset = if nat_lt base (2 ^ 63) then in_half (pos base +ℤ offset) else None

-- the value of an expression of a section, by the most values of an expression, if there is a limit, the size of an address in bytes,
-- and the registers that have values
abbrev pub value_by_expression : (limit : Option ℕ) → (address_size : ℕ) → Stretch → RegisterValues → UnwindExpression ℕ → Option ℕ
value_by_expression limit address_size section registers expression =
    expression_value limit address_size registers (expression_in section expression.offset expression.length)

-- what a row of a section is evaluated by
abbrev pub direct_sources : (limit : Option ℕ) → (address_size : ℕ) → Stretch → RegisterValues → Sources
direct_sources limit address_size section registers =
    record { sum = sum_of; registers = registers; value = value_by_expression limit address_size section registers }

-- the word below a CFA
abbrev pub word_below_cfa : Words → ℕ → Option ℕ
word_below_cfa words cfa = if nat_lt cfa 8 then None else words (cfa - 8)
