-- A context as the state of a program.
use Rattle.std.specs.Prelude.{◌≡◌, ◌≢◌, ℕ, List, ◌∷◌, Option, Some, None, Result, Ok, Err, IfErr, OnErr, OnOk, drop, map, reverse, take}
use Rattle.std.specs.FinMap.{get}
use Rattle.dwarf_constants.specs.declared.error.Error.{Error}
use Rattle.dwarf_constants.specs.declared.error.Error.TheVariants.{CfiInstructionInInvalidContext, OutOfMemory}
use Rattle.dwarf_frame_rows.specs.declared.context.InitialRules.{InitialRules}
use Rattle.dwarf_frame_rows.specs.declared.context.InitialRules.TheVariants.{Unknown, AtMostOne, OfFirstRow}
use Rattle.dwarf_frame_rows.specs.declared.context.UnwindContext.{UnwindContext}
use Rattle.dwarf_frame_rows.specs.declared.row.UnwindTableRow.{UnwindTableRow}
use Rattle.dwarf_frame_rows.specs.Effects.{ContextState, Limits, state_with_initial_rules}
use Rattle.dwarf_frame_rows.specs.declared.rules.RegisterRule.{RegisterRule}
use Rattle.dwarf_frame_rows.specs.Row.{row_of, rules_of_first}
use Rattle.dwarf_frame_rows.specs.RuleMap.{RuleMap, rules_of_one}

-- the rules that the CIE's own instructions left, by those of the row that is kept for them, if they are executed
abbrev pub known_rules : {T : Type 0} → InitialRules T → RuleMap (RegisterRule T) → Option (RuleMap (RegisterRule T))
known_rules Unknown of_first = None
known_rules (AtMostOne pair) of_first = Some (rules_of_one pair)
known_rules OfFirstRow of_first = Some of_first

-- a context, by what its list of rows holds: first a row that is kept for initial rules, then the rows that are remembered
abbrev pub state_of : {T S L K : Type 0} → (K → List (UnwindTableRow T L)) → UnwindContext T S L K → ContextState T
state_of items context = record {
  row = row_of context.row;
  remembered_rows = reverse (map row_of (take context.depth (drop 1 (items context.saved))));
  initial_rules = known_rules context.initial_rules (rules_of_first (items context.saved));
}

-- the register's rule of those that the CIE's own instructions left, if they are known
abbrev pub rule_by : {T : Type 0} → ℕ → Option (RuleMap (RegisterRule T)) → Result (Option (RegisterRule T)) Error
rule_by register None = Err CfiInstructionInInvalidContext
rule_by register (Some rules) = Ok (get rules register)

-- the state with its row remembered
abbrev pub with_row_remembered : {T : Type 0} → ContextState T → ContextState T
with_row_remembered s = record s { remembered_rows = s.row ∷ s.remembered_rows }

-- the state with its row's rules as those that the CIE's own instructions left
abbrev pub with_initial_rules : {T : Type 0} → ContextState T → ContextState T
with_initial_rules s = record s { initial_rules = Some s.row.rules }

-- A call doesn't fail because memory ran out.
abbrev pub NeedsNoMemory : {A : Type 0} → Result A Error → Type 0
NeedsNoMemory result = IfErr result (λ e. e ≢ OutOfMemory)

-- A call made of a state what the definition makes of it; or it failed as the definition says, or because memory ran out, and
-- left the state as it was.
pub record Acts {T : Type 0} (action : ContextState T → Result (ContextState T) Error) (old new : ContextState T)
    (result : Result (Unit {0}) Error) : Type 0 where
  pub done : OnOk result (action old ≡ Ok new)
  pub refused : IfErr result (λ e. e ≢ OutOfMemory → action old ≡ Err e)
  pub unchanged : OnErr result (new ≡ old)

-- The rules of the current row became those that the CIE's own instructions left, in place of any before. If that failed, none are
-- kept.
abbrev pub SavesInitialRules : {T : Type 0} → Limits → ContextState T → ContextState T → Result (Unit {0}) Error → Type 0
SavesInitialRules limits old new result =
    Acts (state_with_initial_rules limits) (record old { initial_rules = None }) new result
