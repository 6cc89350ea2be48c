-- What functions that evaluate a row, or step by one, return, by the arguments of the code.
use Rattle.std.specs.Prelude.{ℕ, ◌≡◌, Bool, Option, option_and_then, Result, IfOk}
use Rattle.dwarf_constants.specs.declared.common.Encoding.{Encoding}
use Rattle.dwarf_readers.specs.Stretch.{Stretch}
use Rattle.dwarf_frame_rows.specs.Row.{Row}
use Rattle.dwarf_frame_rows.specs.declared.rules.CfaRule.{CfaRule}
use Rattle.dwarf_frame_rows.specs.declared.rules.RegisterRule.{RegisterRule}
use Rattle.framehop_registers.specs.Callback.{Words, OverWords}
use Rattle.framehop_rows.specs.Columns.{cfa_by, column_by}
use Rattle.framehop_rows.specs.ExpressionValue.{RegisterValues}
use Rattle.framehop_rows.specs.RowAttempt.{RowAttempt}
use Rattle.framehop_rows.specs.RowMeanings.{RowMeanings}
use Rattle.framehop_rows.specs.RowSources.{direct_sources}

-- unless memory ran out, the result is this value
abbrev pub Evaluates : {A E : Type 0} → Result A E → A → Type 0
Evaluates result value = IfOk result (λ found. found ≡ value)

-- A call took the callback from `old` to `new`. Over all words that the callback answered by, its result is the value that these
-- words give, unless memory ran out.
abbrev pub EvaluatesOver : {S A E : Type 0} → (S → ℕ → Result ℕ (Unit {0}) → S → Type 0) → (old new : S) → Result A E → (Words → A)
    → Type 0
EvaluatesOver step old new result meaning = OverWords step old new (λ words. Evaluates result (meaning words))

-- the canonical frame address by its rule, in a section, by the most values of an expression, if there is a limit, and the registers
-- that have values
abbrev pub cfa_in : (limit : Option ℕ) → Encoding → Stretch → RegisterValues → CfaRule ℕ → Option ℕ
cfa_in limit encoding section registers rule = cfa_by (direct_sources limit encoding.address_size section registers) rule

-- likewise the value that a register's rule gives at a CFA, if it has a rule and that gives one; `own` is its value in the frame
abbrev pub column_in : (limit : Option ℕ) → Encoding → Stretch → RegisterValues → (cfa own : ℕ) → Option (RegisterRule ℕ) → Words
    → Option ℕ
column_in limit encoding section registers cfa own column words =
    option_and_then (column_by (direct_sources limit encoding.address_size section registers) words cfa own) column

-- the attempt at a step by a row of a section whose addresses have the size that an encoding says
abbrev pub by_row : {Rule Registers : Type 0} → RowMeanings Rule Registers → Bool → (values : Option ℕ) → Encoding → Stretch → Row ℕ
    → RowAttempt Rule Registers
by_row rows first values encoding section row = rows.row_attempt first values encoding.address_size section row
