-- Where a way on aarch64 from a place of a text leads.
use Rattle.std.specs.Prelude.{ℕ, ◌≡◌, ◌≤◌, Bool, false, List, length}
use Rattle.framehop_rules.specs.declared.aarch64.unwind_rule.UnwindRuleAarch64.{UnwindRuleAarch64}
use Rattle.framehop_code_ways.specs.FirstRulesAarch64.{keeps_lr}
use Rattle.framehop_ways.specs.Ways.{IsWay}
use Rattle.framehop_ways.specs.declared.executed.Bounds.{Bounds}
use Rattle.framehop_ways.specs.declared.executed.Executed.{Executed}
use Rattle.framehop_ways_returns.specs.WayReturns.{WayReturns}

-- A way out of the function, of at most 128 instructions, is spelled in the text from the place on, and the caller that the rule gives to a
-- frame that goes on there, a first or a later one, is where the machine is once it has executed the way and returned. In a later frame the
-- return address is loaded.
pub record IsLedTo (text : List ℕ) (bounds : Bounds) (at : ℕ) (is_first : Bool) (rule : UnwindRuleAarch64) : Type 0 where
  pub way : List Executed
  pub spelled : IsWay text bounds at way
  pub few : length way ≤ 128
  pub returns : WayReturns is_first way rule
  pub loaded : is_first ≡ false → keeps_lr rule ≡ false
