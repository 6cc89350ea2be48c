-- The values that the CFA rule and the register rules of a row give (DWARF 5, 6.4.1).
use Rattle.std.specs.Prelude.{ℕ, ℤ, Option, Some, None, option_and_then, option_map}
use Rattle.framehop_registers.specs.Callback.{Words}
use Rattle.dwarf_frame_rows.specs.declared.expression.UnwindExpression.{UnwindExpression}
use Rattle.dwarf_frame_rows.specs.declared.rules.CfaRule.{CfaRule}
use Rattle.dwarf_frame_rows.specs.declared.rules.CfaRule.TheVariants as cfa
use Rattle.dwarf_frame_rows.specs.declared.rules.RegisterRule.{RegisterRule}
use Rattle.dwarf_frame_rows.specs.declared.rules.RegisterRule.TheVariants as rule
use Rattle.framehop_rows.specs.declared.evaluation.Found.{Found}
use Rattle.framehop_rows.specs.declared.evaluation.Found.TheVariants.{Value, Word}
use Rattle.framehop_rows.specs.ExpressionValue.{RegisterValues}

-- what a row is evaluated by: the sum of a base and an offset, the registers that have values, and the values of expressions
pub record Sources : Type 0 where
  pub sum : ℕ → ℤ → Option ℕ
  pub registers : RegisterValues
  pub value : UnwindExpression ℕ → Option ℕ

-- the canonical frame address
abbrev pub cfa_by : Sources → CfaRule ℕ → Option ℕ
cfa_by sources (cfa.RegisterAndOffset register offset) =
    option_and_then (λ base. sources.sum base offset) (sources.registers register)
cfa_by sources (cfa.Expression expression) = sources.value expression

-- where the value that a register rule gives is found, by the CFA and the register's own value in the frame
abbrev pub found_by : Sources → (cfa own : ℕ) → RegisterRule ℕ → Option Found
found_by sources cfa own rule.Undefined = None
found_by sources cfa own rule.SameValue = Some (Value own)
found_by sources cfa own (rule.Offset offset) = option_map Word (sources.sum cfa offset)
found_by sources cfa own (rule.ValOffset offset) = option_map Value (sources.sum cfa offset)
found_by sources cfa own (rule.Register register) = option_map Value (sources.registers register)
found_by sources cfa own (rule.Expression expression) = option_map Word (sources.value expression)
found_by sources cfa own (rule.ValExpression expression) = option_map Value (sources.value expression)
found_by sources cfa own rule.Architectural = None
found_by sources cfa own (rule.Constant n) = None

-- the value that was found: a number, or the word at an address, if it can be read
abbrev pub value_found : Words → Found → Option ℕ
value_found words (Value value) = Some value
value_found words (Word at) = words at

-- the value that a register rule gives, if it gives one
abbrev pub column_by : Sources → Words → (cfa own : ℕ) → RegisterRule ℕ → Option ℕ
column_by sources words cfa own column = option_and_then (value_found words) (found_by sources cfa own column)
