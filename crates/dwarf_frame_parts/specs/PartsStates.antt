-- Parts of rows, without a context.
use Rattle.std.specs.Prelude.{◌≡◌, ℕ, ◌+◌, ◌<◌, ◌≤◌, List, ◌∷◌, length, Bool, true, IsTrue, Option, Some, None, Ok}
use Rattle.std.specs.FinMap.{get}
use Rattle.std.specs.List.{filter_map}
use Rattle.dwarf_constants.specs.declared.common.Register.{Register}
use Rattle.dwarf_frame_rows.specs.declared.effect.Effect.{Effect}
use Rattle.dwarf_frame_rows.specs.declared.effect.Effect.TheVariants.{RestoreRule, Rule}
use Rattle.dwarf_frame_rows.specs.declared.rules.RegisterRule.{RegisterRule}
use Rattle.dwarf_frame_rows.specs.Effects.{Limits, is_within}
use Rattle.dwarf_frame_rows.specs.RuleMap.{RuleMap}
use Rattle.dwarf_frame_instructions.specs.Parts.{cfa_of, ruled_register, sign_state, written_rule}
use Rattle.dwarf_frame_instructions.specs.Refusals.{needs}
use Rattle.dwarf_frame_instructions.specs.StateViews.{effect_as}
use Rattle.dwarf_frame_instructions.specs.Survivors.{open_states, survivors}
use Rattle.dwarf_frame_parts.specs.declared.parts_state.PartsState.{PartsState}
use Rattle.dwarf_frame_parts.specs.declared.simple_row.Columns.{Columns}
use Rattle.dwarf_frame_parts.specs.declared.simple_row.SimpleRow.{SimpleRow}
use Rattle.dwarf_frame_parts.specs.declared.simple_row.SimpleRule.{SimpleRule}
use Rattle.dwarf_frame_parts.specs.RowParts.{IsApart}
use Rattle.dwarf_frame_parts.specs.SimpleRows.{cfa_shown, rule_shown}

-- rules of registers
abbrev pub Rules : Type 0
Rules = RuleMap (RegisterRule ℕ)

-- effects that were executed, or those of them that have survived, the latest first
abbrev pub Effects : Type 0
Effects = List (Effect ℕ)

-- Within limits there is room for all rows that are executed without a context: for their rules, and for the current row, one that is
-- remembered and that of the CIE's rules.
pub record HasRoomForParts (limits : Limits) : Type 0 where
  pub rules : is_within limits.rules 128 ≡ true
  pub rows : is_within limits.rows 3 ≡ true

-- The sign state is in none of the columns.
pub record AreApart (columns : Columns) : Type 0 where
  pub frame : IsApart columns.fp
  pub caller : IsApart columns.ra

-- One rule more is counted, and there is room for it.
abbrev pub Counts : SimpleRow → SimpleRow → Type 0
Counts old new = (old.rules < 128) × (new ≡ record old { rules = old.rules + 1 })

-- The state goes on from the one that was remembered, and none is.
abbrev pub GoesBack : PartsState → PartsState → Type 0
GoesBack old new = (old.remembered ≡ Some new.current) × (new ≡ record old { current = new.current; remembered = None })

-- The current state is remembered, where none was.
abbrev pub IsRemembered : PartsState → PartsState → Type 0
IsRemembered old new = (old.remembered ≡ None) × (new ≡ record old { remembered = Some old.current })

module _ (columns : Columns) where
  -- These effects have left the parts of a row, and no more rules than are counted. None is a rule of the sign state.
  pub record Keeps (initial : Rules) (row : SimpleRow) (left : Effects) : Type 0 where
    pub cfa : cfa_shown row ≡ cfa_of left
    pub frame : rule_shown row.fp ≡ written_rule initial columns.fp.0 left
    pub caller : rule_shown row.ra ≡ written_rule initial columns.ra.0 left
    pub sign : written_rule initial sign_state left ≡ None
    pub few : length (filter_map ruled_register left) ≤ row.rules
    pub within : row.rules ≤ 128

  -- An effect more is kept.
  abbrev pub KeepsMore : SimpleRow → Effect ℕ → SimpleRow → Type 0
  KeepsMore old effect new = (initial : Rules) (left : Effects) → Keeps initial old left → Keeps initial new (effect ∷ left)

  -- A rule of a register is kept.
  abbrev pub KeepsRule : SimpleRow → Register → SimpleRule → SimpleRow → Type 0
  KeepsRule old register rule new = (written : RegisterRule ℕ) → rule_shown rule ≡ Some written → KeepsMore old (Rule register written) new

  -- A row has the rules that the CIE's own instructions left.
  pub record HasRulesOf (initial : Rules) (row : SimpleRow) : Type 0 where
    pub frame : rule_shown row.fp ≡ get initial columns.fp.0
    pub caller : rule_shown row.ra ≡ get initial columns.ra.0

  -- A register's rule of those that the CIE's own instructions left is kept.
  abbrev pub KeepsRestored : SimpleRow → SimpleRow → Register → SimpleRow → Type 0
  KeepsRestored first old register new = (initial : Rules) (left : Effects) → HasRulesOf initial first → Keeps initial old left
      → Keeps initial new (RestoreRule register ∷ left)

  -- What is remembered: nothing if no state is open, and else what was kept of the one that is.
  abbrev pub Remembers : Rules → Option SimpleRow → Effects → Type 0
  Remembers initial None executed = open_states executed ≡ 0
  Remembers initial (Some row) executed = (open_states executed ≡ 1) × Keeps initial row (survivors 1 executed)

  -- The state is that after these effects.
  pub record Follows (initial : Rules) (state : PartsState) (executed : Effects) : Type 0 where
    pub restores : HasRulesOf initial state.initial
    pub current : Keeps initial state.current (survivors 0 executed)
    pub remembers : Remembers initial state.remembered executed

  -- If an effect was applied, it is executed in any context, and the state follows it.
  abbrev pub Applies : {T : Type 0} → (T → ℕ) → PartsState → Effect T → PartsState → Bool → Type 0
  Applies number old effect new applied = IsTrue applied → (limits : Limits) (initial : Rules) (executed : Effects)
      → HasRoomForParts limits → Follows initial old executed
      → (needs limits (Some initial) executed (effect_as number effect) ≡ Ok tt) × Follows initial new (effect_as number effect ∷ executed)
