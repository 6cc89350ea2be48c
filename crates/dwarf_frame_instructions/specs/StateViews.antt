-- The states of the code as those of the definitions: the offsets and lengths of expressions are numbers.
use Rattle.std.specs.Prelude.{map, option_map}
use Rattle.std.specs.FinMap.{entries, from_sorted}
use Rattle.dwarf_frame_rows.specs.declared.effect.Effect.{Effect}
use Rattle.dwarf_frame_rows.specs.declared.effect.Effect.TheVariants.{Move, Cfa, CfaRegister, CfaOffset, Rule, RestoreRule, NegateRaState, ArgsSize, Remember, Restore, Nothing}
use Rattle.dwarf_frame_rows.specs.declared.rules.CfaRule.{CfaRule}
use Rattle.dwarf_frame_rows.specs.declared.rules.CfaRule.TheVariants as cfa
use Rattle.dwarf_frame_rows.specs.declared.rules.RegisterRule.{RegisterRule}
use Rattle.dwarf_frame_rows.specs.declared.rules.RegisterRule.TheVariants as rule
use Rattle.dwarf_frame_rows.specs.Effects.{ContextState}
use Rattle.dwarf_frame_rows.specs.Row.{Row}
use Rattle.dwarf_frame_rows.specs.RuleMap.{RuleMap}
use Rattle.dwarf_frame_instructions.specs.InstructionViews.{expression_as}

-- a rule of the CFA
abbrev pub cfa_as : {T U : Type 0} → (T → U) → CfaRule T → CfaRule U
cfa_as number (cfa.RegisterAndOffset register offset) = cfa.RegisterAndOffset register offset
cfa_as number (cfa.Expression expression) = cfa.Expression (expression_as number expression)

-- a rule of a register
abbrev pub rule_as : {T U : Type 0} → (T → U) → RegisterRule T → RegisterRule U
rule_as number rule.Undefined = rule.Undefined
rule_as number rule.SameValue = rule.SameValue
rule_as number (rule.Offset offset) = rule.Offset offset
rule_as number (rule.ValOffset offset) = rule.ValOffset offset
rule_as number (rule.Register register) = rule.Register register
rule_as number (rule.Expression expression) = rule.Expression (expression_as number expression)
rule_as number (rule.ValExpression expression) = rule.ValExpression (expression_as number expression)
rule_as number rule.Architectural = rule.Architectural
rule_as number (rule.Constant n) = rule.Constant n

-- a map whose values are seen so
abbrev pub map_as : {V W : Type 0} → (V → W) → RuleMap V → RuleMap W
map_as view m = from_sorted (map (λ e. (e.0, view e.1)) (entries m))

-- an effect
abbrev pub effect_as : {T U : Type 0} → (T → U) → Effect T → Effect U
effect_as number (Move location) = Move location
effect_as number (Cfa rule) = Cfa (cfa_as number rule)
effect_as number (CfaRegister register) = CfaRegister register
effect_as number (CfaOffset offset) = CfaOffset offset
effect_as number (Rule register rule) = Rule register (rule_as number rule)
effect_as number (RestoreRule register) = RestoreRule register
effect_as number NegateRaState = NegateRaState
effect_as number (ArgsSize size) = ArgsSize size
effect_as number Remember = Remember
effect_as number Restore = Restore
effect_as number Nothing = Nothing

-- a row
abbrev pub row_as : {T U : Type 0} → (T → U) → Row T → Row U
row_as number row = record {
  start = row.start;
  end = row.end;
  saved_args_size = row.saved_args_size;
  cfa = cfa_as number row.cfa;
  rules = map_as (rule_as number) row.rules;
}

-- a state
abbrev pub state_as : {T U : Type 0} → (T → U) → ContextState T → ContextState U
state_as number s = record {
  row = row_as number s.row;
  remembered_rows = map (row_as number) s.remembered_rows;
  initial_rules = option_map (map_as (rule_as number)) s.initial_rules;
}
