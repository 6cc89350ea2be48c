-- When a step may allocate: if it evaluates an expression whose stack of values allocates.
use Rattle.std.specs.Prelude.{◌≡◌, ◌⊎◌, ℕ, Bool, true, false, Option, Some, None}
use Rattle.dwarf_frame_rows.specs.declared.rules.CfaRule.{CfaRule}
use Rattle.dwarf_frame_rows.specs.declared.rules.CfaRule.TheVariants as cfa
use Rattle.dwarf_frame_rows.specs.declared.rules.RegisterRule.{RegisterRule}
use Rattle.dwarf_frame_rows.specs.declared.rules.RegisterRule.TheVariants as rule
use Rattle.dwarf_frame_parts.specs.declared.parts.Parts.{Parts}

-- A stack of values allocates: it isn't made in place, or it has no limit.
abbrev pub TakesMemory : Bool → Option ℕ → Type 0
TakesMemory in_place limit = (in_place ≡ false) ⊎ (limit ≡ None)

-- whether it allocates
abbrev pub takes_memory : Bool → Option ℕ → Bool
takes_memory true (Some limit) = false
takes_memory true None = true
takes_memory false limit = true

-- The CFA is an expression.
abbrev pub IsExpression : {T : Type 0} → CfaRule T → Type 0
IsExpression (cfa.RegisterAndOffset register offset) = ⊥
IsExpression (cfa.Expression expression) = Unit {0}

-- A register rule is an expression: the register is its value, or the word at its value.
abbrev pub IsColumnExpression : {T : Type 0} → Option (RegisterRule T) → Type 0
IsColumnExpression (Some (rule.Expression expression)) = Unit {0}
IsColumnExpression (Some (rule.ValExpression expression)) = Unit {0}
IsColumnExpression _ = ⊥

-- One of the parts of a row is an expression.
abbrev pub HasExpressionPart : Parts ℕ → Type 0
HasExpressionPart parts = IsExpression parts.cfa ⊎ (IsColumnExpression parts.fp ⊎ IsColumnExpression parts.ra)
