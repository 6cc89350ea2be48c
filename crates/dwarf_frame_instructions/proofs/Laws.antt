-- Laws of rows. Each is the contract of a function of the crate.
use Rattle.std.specs.Prelude.{◌≡◌, ℕ, option_map}
use Rattle.std.specs.FinMap.{get}
use Rattle.dwarf_frame_rows.specs.RuleMap.{RuleMap}
use Rattle.dwarf_frame_instructions.specs.StateViews.{map_as}
use Rattle.dwarf_frame_instructions.proofs.Views as views

-- each register's rule is seen as the rules are
pub rule_seen : {V W : Type 0} (view : V → W) (rules : RuleMap V) (register : ℕ)
    → get (map_as view rules) register ≡ option_map view (get rules register)
rule_seen = views.get_as
