-- When an effect fails after the effects that were executed (DWARF 5, 6.4.2; the limits are those of the memory for rows).
use Rattle.std.specs.Prelude.{ℕ, zero, suc, ◌+◌, ◌∷◌, List, Bool, true, false, Option, Some, None, is_none, is_some, unwrap_or, Result, Ok, Err, if◌then◌else◌}
use Rattle.std.specs.FinMap.{empty, len}
use Rattle.dwarf_constants.specs.declared.error.Error.{Error}
use Rattle.dwarf_constants.specs.declared.error.Error.TheVariants.{CfiInstructionInInvalidContext, PopWithEmptyStack, StackFull, TooManyRegisterRules}
use Rattle.dwarf_readers.specs.Stretch.{◌>>=◌, requirement}
use Rattle.dwarf_frame_rows.specs.declared.effect.Effect.{Effect}
use Rattle.dwarf_frame_rows.specs.declared.effect.Effect.TheVariants.{CfaRegister, CfaOffset, Rule, RestoreRule, NegateRaState, Remember, Restore}
use Rattle.dwarf_frame_rows.specs.declared.rules.RegisterRule.{RegisterRule}
use Rattle.dwarf_frame_rows.specs.declared.rules.RegisterRule.TheVariants.{Constant}
use Rattle.dwarf_frame_rows.specs.Effects.{Limits, initial_rows, is_within}
use Rattle.dwarf_frame_rows.specs.RuleMap.{RuleMap}
use Rattle.dwarf_frame_instructions.specs.Parts.{cfa_expression, rule_of, surviving_rules, sign_state}
use Rattle.dwarf_frame_instructions.specs.Survivors.{open_states, survivors}

-- the rules that the CIE's own instructions left, once they are executed
abbrev pub InitialRules : Type 0 → Type 0
InitialRules T = Option (RuleMap (RegisterRule T))

-- these rules; none before they are known
abbrev pub rules_or_none : {T : Type 0} → InitialRules T → RuleMap (RegisterRule T)
rules_or_none initial_rules = unwrap_or initial_rules empty

-- the CFA has to be a register and an offset
abbrev pub needs_register_and_offset : {T : Type 0} → List (Effect T) → Result (Unit {0}) Error
needs_register_and_offset executed = requirement (is_none (cfa_expression (survivors 0 executed))) CfiInstructionInInvalidContext

-- a register that has a rule needs room among the rules of the row
abbrev pub needs_room_for_rule : {T : Type 0} → Limits → RuleMap (RegisterRule T) → ℕ → List (Effect T) → Result (Unit {0}) Error
needs_room_for_rule limits initial register executed =
    if is_some (rule_of initial (survivors 0 executed) register)
    then requirement (is_within limits.rules (len (surviving_rules initial (survivors 0 executed)))) TooManyRegisterRules
    else Ok tt

-- a rule that can be negated: a constant, or none
abbrev pub is_turnable : {T : Type 0} → Option (RegisterRule T) → Bool
is_turnable None = true
is_turnable (Some (Constant n)) = true
is_turnable (Some _) = false

-- a rule can be restored once the CIE's own instructions are executed
abbrev pub needs_rules : {T : Type 0} → InitialRules T → Result (Unit {0}) Error
needs_rules initial_rules = requirement (is_some initial_rules) CfiInstructionInInvalidContext

-- the number of rows that count: the current one, the open states, and that of the CIE's rules, if it counts
abbrev pub row_count : {T : Type 0} → InitialRules T → List (Effect T) → ℕ
row_count initial_rules executed = 1 + open_states executed + initial_rows initial_rules

-- there is room for n rows
abbrev pub needs_room_for_rows : Limits → ℕ → Result (Unit {0}) Error
needs_room_for_rows limits rows = requirement (is_within limits.rows rows) StackFull

-- a state that is open
abbrev pub needs_open_state : ℕ → Result (Unit {0}) Error
needs_open_state zero = Err PopWithEmptyStack
needs_open_state (suc n) = Ok tt

-- what an effect needs after those that were executed, or its error
abbrev pub needs : {T : Type 0} → Limits → InitialRules T → List (Effect T) → Effect T → Result (Unit {0}) Error
needs limits initial_rules executed (CfaRegister register) = needs_register_and_offset executed
needs limits initial_rules executed (CfaOffset offset) = needs_register_and_offset executed
needs limits initial_rules executed (Rule register rule) =
    needs_room_for_rule limits (rules_or_none initial_rules) register.0 (Rule register rule ∷ executed)
needs limits initial_rules executed (RestoreRule register) = do
  _ ← needs_rules initial_rules
  needs_room_for_rule limits (rules_or_none initial_rules) register.0 (RestoreRule register ∷ executed)
needs limits initial_rules executed NegateRaState = do
  _ ← requirement (is_turnable (rule_of (rules_or_none initial_rules) (survivors 0 executed) sign_state)) CfiInstructionInInvalidContext
  needs_room_for_rule limits (rules_or_none initial_rules) sign_state (NegateRaState ∷ executed)
needs limits initial_rules executed Remember = needs_room_for_rows limits (row_count initial_rules executed + 1)
needs limits initial_rules executed Restore = needs_open_state (open_states executed)
needs limits initial_rules executed _ = Ok tt
