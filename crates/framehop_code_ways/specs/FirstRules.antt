-- The rule of the first way from a place of a text, on x86_64.
use Rattle.std.specs.Prelude.{ℕ, ◌-◌, Bool, true, false, if◌then◌else◌, List, length, slice_get, Option, None, option_and_then}
use Rattle.std.specs.Option.{option_map_or}
use Rattle.framehop_rules.specs.declared.x86_64.unwind_rule.UnwindRuleX86_64.{UnwindRuleX86_64}
use Rattle.framehop_x86_ways.specs.FirstWay.{way_in}
use Rattle.framehop_x86_ways.specs.WayRules.{rule_of_way}
use Rattle.framehop_ways.specs.declared.executed.Bounds.{Bounds}
use Rattle.framehop_x86_ways.specs.declared.executed.Executed.{Executed}
use Rattle.framehop_x86_instructions.specs.declared.effect.Effect.{Effect}
use Rattle.framehop_x86_instructions.specs.declared.effect.Effect.TheVariants.{Jump}
use Rattle.framehop_code_ways.specs.declared.way.BranchesOut.{BranchesOut}
use Rattle.framehop_code_ways.specs.declared.way.BranchesOut.TheVariants.{TailCalls, Unknown}

-- Whether the last instruction is a jump to an address that its code says. A way ends by it only where that is no place of the text.
abbrev pub is_branch : Effect → Bool
is_branch (Jump distance) = true
is_branch other = false

abbrev pub ends_by_branch : List Executed → Bool
ends_by_branch way = option_map_or (λ one. is_branch one.instruction.effect) (slice_get way (length way - 1)) false

abbrev pub is_unknown_end : BranchesOut → List Executed → Bool
is_unknown_end TailCalls way = false
is_unknown_end Unknown way = ends_by_branch way

-- The rule of the first way from a place, in first and in later frames.
abbrev pub first_rule : BranchesOut → List ℕ → Bounds → ℕ → Bool → Option UnwindRuleX86_64
first_rule branches_out text bounds at is_first =
    option_and_then (λ way. if is_unknown_end branches_out way then None else rule_of_way way) (way_in 128 text bounds at)
