use Rattle.std.proofs.Common.{subst, List, [], ℕ, refl, Some, None}
use Rattle.framehop_rules.specs.declared.aarch64.unwind_rule.UnwindRuleAarch64.TheVariants.{NoOp}
use Rattle.framehop_analysis.specs.EpilogueAarch64.{IsEnd}
use Rattle.framehop_analysis.specs.EpilogueViewsAarch64.{restored_of, HasNoRule}
use Rattle.framehop_analysis.specs.LookBackAarch64.{Back}
use Rattle.framehop_analysis.proofs.EpilogueReadingAarch64.{not_recognised}
use Rattle.framehop_analysis.proofs.OneEpilogueAarch64.{read_epilogue, read_forward}
use Rattle.framehop_analysis.proofs.aarch64.instruction_analysis.epilogue.unwind_rule_from_detected_epilogue.Goals as goal

pub returns-in-Some : goal.returns-in-Some
returns-in-Some c =
    let (list, end, restores) = c.in-Some.ensures.restored in
    read_forward c.args.bytes.now c.args.pc_offset list (restored_of c.in-Some.restored) c.rule_of_short.result
    (subst (λ (bytes : List ℕ). IsEnd bytes list) c.split_at.ensures.back end) restores c.rule_of_short.ensures.rule c.rule_of_short.ensures.none

pub returns-then-is_in_end : goal.returns-then-is_in_end
returns-then-is_in_end c =
    read_epilogue c.args.bytes.now c.args.pc_offset (Some NoOp) ([], Back refl (c.is_in_end.ensures.0 c.if-is_in_end.true), tt, (refl, refl, refl)) tt

pub returns-else-is_in_end : goal.returns-else-is_in_end
returns-else-is_in_end c =
    read_epilogue c.args.bytes.now c.args.pc_offset None tt (not_recognised c.args.bytes.now c.args.pc_offset c.is_in_end.result c.is_in_end.ensures.1 c.if-is_in_end.false
    (subst HasNoRule c.split_at.ensures.back c.in_default.ensures.none))
