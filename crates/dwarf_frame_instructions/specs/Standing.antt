-- When the state of a program is what the executed effects make of it.
use Rattle.std.specs.Prelude.{◌≡◌, ℕ, zero, suc, List, [], ◌∷◌, length, Some, None}
use Rattle.dwarf_frame_rows.specs.declared.effect.Effect.{Effect}
use Rattle.dwarf_frame_rows.specs.declared.rules.RegisterRule.{RegisterRule}
use Rattle.dwarf_frame_rows.specs.Effects.{ContextState}
use Rattle.dwarf_frame_rows.specs.Row.{Row}
use Rattle.dwarf_frame_rows.specs.RuleMap.{RuleMap}
use Rattle.dwarf_frame_instructions.specs.Parts.{RowParts, surviving_parts}
use Rattle.dwarf_frame_instructions.specs.Refusals.{InitialRules}
use Rattle.dwarf_frame_instructions.specs.Survivors.{open_states, survivors}

-- the parts of a row
abbrev pub parts_in : {T : Type 0} → Row T → RowParts T
parts_in row = record { saved_args_size = row.saved_args_size; cfa = row.cfa; rules = row.rules }

-- The nth of some rows has the parts that the nth of some lists of effects makes.
abbrev pub HaveParts : {T : Type 0} → RuleMap (RegisterRule T) → (ℕ → List (Effect T)) → List (Row T) → Type 0
HaveParts initial lists [] = Unit {0}
HaveParts initial lists (row ∷ rows) =
    (parts_in row ≡ surviving_parts initial (lists zero)) × HaveParts initial (λ n. lists (suc n)) rows

-- These are the rules that the CIE left, if its instructions are executed.
abbrev pub AgreesWith : {T : Type 0} → InitialRules T → RuleMap (RegisterRule T) → Type 0
AgreesWith None initial = Unit {0}
AgreesWith (Some rules) initial = initial ≡ rules

-- As many states are remembered as are open, the row has the parts of what survives, and each that is remembered those of what
-- survived before it.
pub record Stands {T : Type 0} (s : ContextState T) (executed : List (Effect T)) : Type 0 where
  pub count : length s.remembered_rows ≡ open_states executed
  pub parts : (initial : RuleMap (RegisterRule T)) → AgreesWith s.initial_rules initial
      → HaveParts initial (λ n. survivors n executed) (s.row ∷ s.remembered_rows)
