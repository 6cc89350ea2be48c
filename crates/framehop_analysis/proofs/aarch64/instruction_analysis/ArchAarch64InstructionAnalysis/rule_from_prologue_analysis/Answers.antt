use Rattle.std.proofs.Common.{subst, List, ℕ, drop}
use Rattle.framehop_analysis.specs.Found.{IsFound}
use Rattle.framehop_analysis.specs.PrologueAarch64.{IsPrologueRule}
use Rattle.framehop_analysis.proofs.aarch64.instruction_analysis.ArchAarch64InstructionAnalysis.rule_from_prologue_analysis.Goals as goal

pub returns : goal.returns
returns c =
    let result = c.unwind_rule_from_detected_prologue.result in
    subst (λ (before : List ℕ). IsFound (IsPrologueRule before (drop c.args.pc_offset c.args.text_bytes.now)) result) c.split_at.ensures.front
    (subst (λ (from : List ℕ). IsFound (IsPrologueRule c.split_at.result.0.now from) result) c.split_at.ensures.back c.unwind_rule_from_detected_prologue.ensures)
