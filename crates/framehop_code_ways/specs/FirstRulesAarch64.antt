-- The rule of the first way from a place of a text, on aarch64.
use Rattle.std.specs.Prelude.{ℕ, ◌-◌, ◌&&◌, not, Bool, true, false, if◌then◌else◌, List, length, slice_get, Option, Some, None, option_and_then}
use Rattle.std.specs.Option.{option_map_or}
use Rattle.framehop_rules.specs.declared.aarch64.unwind_rule.UnwindRuleAarch64.{UnwindRuleAarch64}
use Rattle.framehop_rules.specs.declared.aarch64.unwind_rule.UnwindRuleAarch64.TheVariants.{NoOp, OffsetSp}
use Rattle.framehop_ways.specs.FirstWay.{way_in}
use Rattle.framehop_ways.specs.WayRules.{rule_of_way}
use Rattle.framehop_ways.specs.declared.executed.Bounds.{Bounds}
use Rattle.framehop_ways.specs.declared.executed.Executed.{Executed}
use Rattle.framehop_ways.specs.declared.instruction.Instruction.{Instruction}
use Rattle.framehop_ways.specs.declared.instruction.Instruction.TheVariants.{Branch}
use Rattle.framehop_code_ways.specs.declared.way.BranchesOut.{BranchesOut}
use Rattle.framehop_code_ways.specs.declared.way.BranchesOut.TheVariants.{TailCalls, Unknown}

-- Whether the last instruction is a branch to an address that its code says. A way ends by it only where that is no place of the text.
abbrev pub is_branch : Instruction → Bool
is_branch (Branch distance) = true
is_branch other = false

abbrev pub ends_by_branch : List Executed → Bool
ends_by_branch way = option_map_or (λ one. is_branch one.instruction) (slice_get way (length way - 1)) false

abbrev pub is_unknown_end : BranchesOut → List Executed → Bool
is_unknown_end TailCalls way = false
is_unknown_end Unknown way = ends_by_branch way

-- Whether the rule of a way leaves the return address in the link register.
abbrev pub keeps_lr : UnwindRuleAarch64 → Bool
keeps_lr NoOp = true
keeps_lr (OffsetSp pairs) = true
keeps_lr other = false

-- The rule in first frames; and in later ones if it loads the link register, in which a call leaves anything.
abbrev pub if_known : Bool → UnwindRuleAarch64 → Option UnwindRuleAarch64
if_known is_first rule = if not is_first && keeps_lr rule then None else Some rule

-- The rule of the first way from a place.
abbrev pub first_rule : BranchesOut → List ℕ → Bounds → ℕ → Bool → Option UnwindRuleAarch64
first_rule branches_out text bounds at is_first =
    option_and_then (λ way. if is_unknown_end branches_out way then None else option_and_then (if_known is_first) (rule_of_way way))
    (way_in 128 text bounds at)
