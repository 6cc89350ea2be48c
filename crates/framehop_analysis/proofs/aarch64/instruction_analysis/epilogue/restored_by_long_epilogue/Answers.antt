use Rattle.framehop_analysis.proofs.EpilogueReadingAarch64.{nothing, no_rule_kept}
use Rattle.framehop_analysis.proofs.aarch64.instruction_analysis.epilogue.restored_by_long_epilogue.Goals as goal

pub returns-in_err-restored-clause-none : goal.returns-in_err-restored-clause-none
returns-in_err-restored-clause-none c = nothing c.from_residual.result _ (λ list rule end fits is. c.in_err-restored.ensures.none list end)

pub returns-clause-none : goal.returns-clause-none
returns-clause-none c =
    let (list, end, restores) = c.in_ok-restored.ensures.restored in
    no_rule_kept c.args.bytes.now list c.in_ok-restored.restored c.short_of.result end restores c.short_of.ensures.none
