-- What the effects of call frame instructions do (DWARF 5, 6.4.2).
use Rattle.std.specs.Prelude.{ℕ, ◌+◌, ◌-◌, ◌%◌, List, [], ◌∷◌, length, Bool, true, IsSome, IsTrue, Option, Some, None, Result, Ok, Err, nat_le, if◌then◌else◌}
use Rattle.std.specs.FinMap.{get, insert, len, remove}
use Rattle.dwarf_constants.specs.declared.arch.TheConstants.AArch64.{RA_SIGN_STATE}
use Rattle.dwarf_constants.specs.declared.error.Error.{Error}
use Rattle.dwarf_constants.specs.declared.error.Error.TheVariants.{CfiInstructionInInvalidContext, PopWithEmptyStack, StackFull, TooManyRegisterRules}
use Rattle.dwarf_readers.specs.Stretch.{◌>>=◌, requirement}
use Rattle.dwarf_frame_rows.specs.declared.effect.Effect.{Effect}
use Rattle.dwarf_frame_rows.specs.declared.effect.Effect.TheVariants.{Move, Cfa, CfaRegister, CfaOffset, Rule, RestoreRule, NegateRaState, ArgsSize, Remember, Restore, Nothing}
use Rattle.dwarf_frame_rows.specs.declared.rules.CfaRule.{CfaRule}
use Rattle.dwarf_frame_rows.specs.declared.rules.RegisterRule.{RegisterRule}
use Rattle.dwarf_frame_rows.specs.declared.rules.RegisterRule.TheVariants.{Constant}
use Rattle.dwarf_frame_rows.specs.CfaRules.{with_cfa_offset, with_cfa_register}
use Rattle.dwarf_frame_rows.specs.Row.{Row, first_row, with_parts_of}
use Rattle.dwarf_frame_rows.specs.RuleMap.{RuleMap}

-- the state of a program: its current row, the rows on its stack, the latest first, and, once the CIE's own instructions are
-- executed, the rules that they left
pub record ContextState (T : Type 0) : Type 0 where
  pub row : Row T
  pub remembered_rows : List (Row T)
  pub initial_rules : Option (RuleMap (RegisterRule T))

-- before any instruction
abbrev pub first_state : {T : Type 0} → ContextState T
first_state = record { row = first_row; remembered_rows = []; initial_rules = None }

-- how many rules a row has room for, and how many rows there is room for; nothing if there is no limit
pub record Limits : Type 0 where
  pub rules : Option ℕ
  pub rows : Option ℕ

-- the limits of two lists
abbrev pub limits_of : Option ℕ → Option ℕ → Limits
limits_of rules rows = record { rules = rules; rows = rows }

-- A storage never allocates once a context is made: rules are made in place, and both lists have limits.
pub record TakesNoMemory (made_in_place : Bool) (limits : Limits) : Type 0 where
  pub in_place : IsTrue made_in_place
  pub rules : IsSome limits.rules
  pub rows : IsSome limits.rows

-- this many are within a limit
abbrev pub is_within : Option ℕ → ℕ → Bool
is_within None n = true
is_within (Some limit) n = nat_le n limit

-- the CIE's rules count as one more row if they are two or more
abbrev pub initial_rows : {V : Type 0} → Option (RuleMap V) → ℕ
initial_rows None = 0
initial_rows (Some rules) = if nat_le 2 (len rules) then 1 else 0

-- the rows that count: the current one, those that are remembered, and that of the CIE's rules
abbrev pub rows_held : {T : Type 0} → ContextState T → ℕ
rows_held s = 1 + length s.remembered_rows + initial_rows s.initial_rules

-- the state with another row
abbrev pub with_row : {T : Type 0} → Row T → ContextState T → ContextState T
with_row row s = record s { row = row }

-- the state with other bounds of its row
abbrev pub with_bounds : {T : Type 0} → ℕ → ℕ → ContextState T → ContextState T
with_bounds start end s = with_row (record s.row { start = start; end = end }) s

-- the state with another CFA
abbrev pub with_cfa : {T : Type 0} → ContextState T → CfaRule T → Result (ContextState T) Error
with_cfa s cfa = Ok (with_row (record s.row { cfa = cfa }) s)

-- the state with other rules
abbrev pub with_rules : {T : Type 0} → RuleMap (RegisterRule T) → ContextState T → ContextState T
with_rules rules s = with_row (record s.row { rules = rules }) s

-- a register gets this rule, if there is room for it
abbrev pub ruled_state : {T : Type 0} → Limits → ℕ → RegisterRule T → ContextState T → Result (ContextState T) Error
ruled_state limits register rule s = do
  _ ← requirement (is_within limits.rules (len (insert s.row.rules register rule))) TooManyRegisterRules
  Ok (with_rules (insert s.row.rules register rule) s)

-- a register gets this rule, or none
abbrev pub restored_state : {T : Type 0} → Limits → ℕ → Option (RegisterRule T) → ContextState T → Result (ContextState T) Error
restored_state limits register (Some rule) s = ruled_state limits register rule s
restored_state limits register None s = Ok (with_rules (remove s.row.rules register) s)

-- a register gets its rule of these, if they are known
abbrev pub state_by_rules : {T : Type 0} → Option (RuleMap (RegisterRule T)) → Limits → ℕ → ContextState T
    → Result (ContextState T) Error
state_by_rules None limits register s = Err CfiInstructionInInvalidContext
state_by_rules (Some rules) limits register s = restored_state limits register (get rules register) s

-- a register gets its rule of those that the CIE's instructions left
abbrev pub state_by_initial_rules : {T : Type 0} → Limits → ℕ → ContextState T → Result (ContextState T) Error
state_by_initial_rules limits register s = state_by_rules s.initial_rules limits register s

-- the constant 1 for 0 or no rule, and 0 for 1; any other rule can't be negated
abbrev pub negated_rule : {T : Type 0} → Option (RegisterRule T) → Result (RegisterRule T) Error
negated_rule None = Ok (Constant 1)
negated_rule (Some (Constant n)) = Ok (Constant (1 - n % 2))
negated_rule (Some _) = Err CfiInstructionInInvalidContext

-- the latest of some rows becomes the current one, which keeps its bounds
abbrev pub state_with_latest_of : {T : Type 0} → List (Row T) → ContextState T → Result (ContextState T) Error
state_with_latest_of [] s = Err PopWithEmptyStack
state_with_latest_of (latest ∷ earlier) s = Ok (record s { row = with_parts_of latest s.row; remembered_rows = earlier })

-- the latest of the rows that are remembered becomes the current one
abbrev pub popped_state : {T : Type 0} → ContextState T → Result (ContextState T) Error
popped_state s = state_with_latest_of s.remembered_rows s

-- the row is remembered, if there is room for one more
abbrev pub pushed_state : {T : Type 0} → Limits → ContextState T → Result (ContextState T) Error
pushed_state limits s = do
  _ ← requirement (is_within limits.rows (rows_held s + 1)) StackFull
  Ok (record s { remembered_rows = s.row ∷ s.remembered_rows })

-- the sign state is negated
abbrev pub negated_state : {T : Type 0} → Limits → ContextState T → Result (ContextState T) Error
negated_state limits s = do
  rule ← negated_rule (get s.row.rules RA_SIGN_STATE.0)
  ruled_state limits RA_SIGN_STATE.0 rule s

-- what an effect makes of a state, or why it fails
abbrev pub state_after : {T : Type 0} → Limits → Effect T → ContextState T → Result (ContextState T) Error
state_after limits (Move location) s = Ok s
state_after limits (Cfa rule) s = with_cfa s rule
state_after limits (CfaRegister register) s = with_cfa_register register s.row.cfa >>= with_cfa s
state_after limits (CfaOffset offset) s = with_cfa_offset offset s.row.cfa >>= with_cfa s
state_after limits (Rule register rule) s = ruled_state limits register.0 rule s
state_after limits (RestoreRule register) s = state_by_initial_rules limits register.0 s
state_after limits NegateRaState s = negated_state limits s
state_after limits (ArgsSize size) s = Ok (with_row (record s.row { saved_args_size = size }) s)
state_after limits Remember s = pushed_state limits s
state_after limits Restore s = popped_state s
state_after limits Nothing s = Ok s

-- the state once the CIE's own instructions are executed, if there is room for their rules
abbrev pub state_with_initial_rules : {T : Type 0} → Limits → ContextState T → Result (ContextState T) Error
state_with_initial_rules limits s = do
  _ ← requirement (is_within limits.rows (1 + length s.remembered_rows + initial_rows (Some s.row.rules))) StackFull
  Ok (record s { initial_rules = Some s.row.rules })
