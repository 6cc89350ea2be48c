-- States by their parts.
use Rattle.std.proofs.Common.{◌≡◌, List, ◌∷◌, Option, Ok, sym, ap, ◌∙◌}
use Rattle.dwarf_frame_rows.specs.declared.rules.RegisterRule.{RegisterRule}
use Rattle.dwarf_frame_rows.specs.Contexts.{with_row_remembered}
use Rattle.dwarf_frame_rows.specs.Effects.{ContextState, popped_state, state_with_latest_of}
use Rattle.dwarf_frame_rows.specs.Row.{Row, with_parts_of}
use Rattle.dwarf_frame_rows.specs.RuleMap.{RuleMap}

-- a state by its parts
abbrev state_with : {T : Type 0} → Row T → List (Row T) → Option (RuleMap (RegisterRule T)) → ContextState T
state_with row rows initial = record { row = row; remembered_rows = rows; initial_rules = initial }

-- a state with one more row
pub pushed-by-parts : {T : Type 0} (s : ContextState T) (rows : List (Row T)) (initial : Option (RuleMap (RegisterRule T)))
    → rows ≡ s.row ∷ s.remembered_rows → initial ≡ s.initial_rules → state_with s.row rows initial ≡ with_row_remembered s
pushed-by-parts s rows initial more same = ap (λ l. state_with s.row l initial) more ∙ ap (λ i. state_with s.row (s.row ∷ s.remembered_rows) i) same

-- a state with the latest row as the current one
pub popped-by-parts : {T : Type 0} (s : ContextState T) (latest row : Row T) (earlier : List (Row T)) (initial : Option (RuleMap (RegisterRule T)))
    → s.remembered_rows ≡ latest ∷ earlier → row ≡ with_parts_of latest s.row → initial ≡ s.initial_rules
    → popped_state s ≡ Ok (state_with row earlier initial)
popped-by-parts s latest row earlier initial rows parts same =
    ap (λ l. state_with_latest_of l s) rows ∙ ap (λ r. Ok (state_with r earlier s.initial_rules)) (sym parts)
    ∙ ap (λ i. Ok (state_with row earlier i)) (sym same)
