-- Where a way on x86_64 from a place of a text leads.
use Rattle.std.specs.Prelude.{ℕ, ◌≤◌, Bool, List, length}
use Rattle.framehop_rules.specs.declared.x86_64.unwind_rule.UnwindRuleX86_64.{UnwindRuleX86_64}
use Rattle.framehop_x86_ways.specs.Ways.{IsWay}
use Rattle.framehop_ways.specs.declared.executed.Bounds.{Bounds}
use Rattle.framehop_x86_ways.specs.declared.executed.Executed.{Executed}
use Rattle.framehop_x86_ways_returns.specs.WayReturns.{WayReturns}

-- A way out of the function, of at most 128 instructions, is spelled in the text from the place on, and the caller that the rule gives to a
-- frame that goes on there, a first or a later one, is where the machine is once it has executed the way and returned.
pub record IsLedTo (text : List ℕ) (bounds : Bounds) (at : ℕ) (is_first : Bool) (rule : UnwindRuleX86_64) : Type 0 where
  pub way : List Executed
  pub spelled : IsWay text bounds at way
  pub few : length way ≤ 128
  pub returns : WayReturns is_first way rule
