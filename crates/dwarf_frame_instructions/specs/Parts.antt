-- The parts of a row (DWARF 5, 6.4.1): each is what its last surviving writer wrote.
use Rattle.std.specs.Prelude.{ℕ, zero, suc, ◌+◌, ◌%◌, ◌==◌, ℤ, pos, List, [], ◌∷◌, Bool, true, false, Option, Some, None, is_some, unwrap_or, if◌then◌else◌}
use Rattle.std.specs.FinMap.{empty, get, insert}
use Rattle.std.specs.List.{filter_map}
use Rattle.list_laws.specs.First.{first_value}
use Rattle.dwarf_constants.specs.declared.arch.TheConstants.AArch64.{RA_SIGN_STATE}
use Rattle.dwarf_constants.specs.declared.common.Register.{Register}
use Rattle.dwarf_frame_rows.specs.declared.effect.Effect.{Effect}
use Rattle.dwarf_frame_rows.specs.declared.effect.Effect.TheVariants.{Cfa, CfaRegister, CfaOffset, Rule, RestoreRule, NegateRaState, ArgsSize}
use Rattle.dwarf_frame_rows.specs.declared.expression.UnwindExpression.{UnwindExpression}
use Rattle.dwarf_frame_rows.specs.declared.rules.CfaRule.{CfaRule}
use Rattle.dwarf_frame_rows.specs.declared.rules.CfaRule.TheVariants.{RegisterAndOffset, Expression}
use Rattle.dwarf_frame_rows.specs.declared.rules.RegisterRule.{RegisterRule}
use Rattle.dwarf_frame_rows.specs.declared.rules.RegisterRule.TheVariants.{Constant}
use Rattle.dwarf_frame_rows.specs.RuleMap.{RuleMap}

-- ---- the CFA

-- the expression of a CFA rule, if it is one
abbrev pub expression_of : {T : Type 0} → CfaRule T → Option (UnwindExpression T)
expression_of (Expression expression) = Some expression
expression_of (RegisterAndOffset register offset) = None

-- the register that the CFA is relative to, if it is relative to one
abbrev pub cfa_register : {T : Type 0} → CfaRule T → Option Register
cfa_register (Expression expression) = None
cfa_register (RegisterAndOffset register offset) = Some register

-- the offset of the CFA from its register, if it is relative to one
abbrev pub cfa_offset : {T : Type 0} → CfaRule T → Option ℤ
cfa_offset (Expression expression) = None
cfa_offset (RegisterAndOffset register offset) = Some offset

-- the expression that an effect makes the CFA, or none if it makes it a register and an offset
abbrev pub cfa_expression_by : {T : Type 0} → Effect T → Option (Option (UnwindExpression T))
cfa_expression_by (Cfa rule) = Some (expression_of rule)
cfa_expression_by _ = None

-- the register that an effect makes the CFA relative to
abbrev pub cfa_register_by : {T : Type 0} → Effect T → Option Register
cfa_register_by (Cfa rule) = cfa_register rule
cfa_register_by (CfaRegister register) = Some register
cfa_register_by _ = None

-- the offset that an effect puts the CFA at
abbrev pub cfa_offset_by : {T : Type 0} → Effect T → Option ℤ
cfa_offset_by (Cfa rule) = cfa_offset rule
cfa_offset_by (CfaOffset offset) = Some offset
cfa_offset_by _ = None

-- an expression, or else a register and an offset
abbrev pub cfa_from : {T : Type 0} → Option (UnwindExpression T) → Register → ℤ → CfaRule T
cfa_from (Some expression) register offset = Expression expression
cfa_from None register offset = RegisterAndOffset register offset

-- the expression that the CFA is, if it is one
abbrev pub cfa_expression : {T : Type 0} → List (Effect T) → Option (UnwindExpression T)
cfa_expression executed = unwrap_or (first_value cfa_expression_by executed) None

-- the CFA: the expression, or the register and the offset last written, each 0 before it is
abbrev pub cfa_of : {T : Type 0} → List (Effect T) → CfaRule T
cfa_of executed =
    cfa_from (cfa_expression executed)
    (unwrap_or (first_value cfa_register_by executed) (record { 0 = 0 }))
    (unwrap_or (first_value cfa_offset_by executed) (pos 0))

-- ---- the size of arguments

-- the size of arguments that an effect sets, if it sets one
abbrev pub size_by : {T : Type 0} → Effect T → Option ℕ
size_by (ArgsSize size) = Some size
size_by _ = None

-- 0 before it is written
abbrev pub args_size : {T : Type 0} → List (Effect T) → ℕ
args_size executed = unwrap_or (first_value size_by executed) 0

-- ---- the rules of registers

-- what an effect makes of a register: a rule, or none; a restored register gets the rule that the CIE's own instructions left
abbrev pub rule_by : {T : Type 0} → RuleMap (RegisterRule T) → ℕ → Effect T → Option (Option (RegisterRule T))
rule_by initial register (Rule written rule) = if written.0 == register then Some (Some rule) else None
rule_by initial register (RestoreRule restored) = if restored.0 == register then Some (get initial restored.0) else None
rule_by initial register _ = None

-- the rule last written for a register, if any is
abbrev pub written_rule : {T : Type 0} → RuleMap (RegisterRule T) → ℕ → List (Effect T) → Option (RegisterRule T)
written_rule initial register executed = unwrap_or (first_value (rule_by initial register) executed) None

-- the register of the sign state, on AArch64
abbrev pub sign_state : ℕ
sign_state = RA_SIGN_STATE.0

-- the effect negates the sign state
abbrev pub is_turn : {T : Type 0} → Effect T → Bool
is_turn NegateRaState = true
is_turn _ = false

-- how often the sign state is negated after the last rule that was written for it
abbrev pub turns : {T : Type 0} → RuleMap (RegisterRule T) → List (Effect T) → ℕ
turns initial [] = zero
turns initial (e ∷ earlier) =
    if is_some (rule_by initial sign_state e) then zero
    else if is_turn e then suc (turns initial earlier) else turns initial earlier

-- the number of a constant, 0 if there is none
abbrev pub constant_of : {T : Type 0} → Option (RegisterRule T) → ℕ
constant_of (Some (Constant n)) = n
constant_of _ = 0

-- a rule negated n times: unchanged for 0, and else the constant plus n, modulo 2
abbrev pub turned : {T : Type 0} → ℕ → Option (RegisterRule T) → Option (RegisterRule T)
turned zero rule = rule
turned (suc n) rule = Some (Constant ((constant_of rule + suc n) % 2))

-- the rule of a register, if it has one
abbrev pub rule_of : {T : Type 0} → RuleMap (RegisterRule T) → List (Effect T) → ℕ → Option (RegisterRule T)
rule_of initial executed register =
    if register == sign_state then turned (turns initial executed) (written_rule initial sign_state executed)
    else written_rule initial register executed

-- the register whose rule an effect writes
abbrev pub ruled_register : {T : Type 0} → Effect T → Option ℕ
ruled_register (Rule register rule) = Some register.0
ruled_register (RestoreRule register) = Some register.0
ruled_register NegateRaState = Some sign_state
ruled_register _ = None

-- a map with one more register, if it has a rule
abbrev pub with_rule : {V : Type 0} → Option V → ℕ → RuleMap V → RuleMap V
with_rule (Some rule) register rules = insert rules register rule
with_rule None register rules = rules

-- the rules of some registers, as a map
abbrev pub rules_at : {V : Type 0} → (ℕ → Option V) → List ℕ → RuleMap V
rules_at rule [] = empty
rules_at rule (register ∷ registers) = with_rule (rule register) register (rules_at rule registers)

-- the rules of all registers, as a map
abbrev pub surviving_rules : {T : Type 0} → RuleMap (RegisterRule T) → List (Effect T) → RuleMap (RegisterRule T)
surviving_rules initial executed = rules_at (rule_of initial executed) (filter_map ruled_register executed)

-- ---- all parts

-- The parts of a row: what it has beside its bounds.
pub record RowParts (T : Type 0) : Type 0 where
  pub saved_args_size : ℕ
  pub cfa : CfaRule T
  pub rules : RuleMap (RegisterRule T)

-- what has survived makes these parts
abbrev pub surviving_parts : {T : Type 0} → RuleMap (RegisterRule T) → List (Effect T) → RowParts T
surviving_parts initial executed =
    record { saved_args_size = args_size executed; cfa = cfa_of executed; rules = surviving_rules initial executed }
