use Rattle.framehop_analysis.proofs.EpilogueReading.{run_and_one}
use Rattle.framehop_analysis.proofs.x86_64.instruction_analysis.epilogue.pops_of.Goals as goal

pub loop-is_plain_rbp-preserved : goal.loop-is_plain_rbp-preserved
loop-is_plain_rbp-preserved c =
    let (pops, run) = c.loop-is_plain_rbp.invariant in
    run_and_one c.args.bytes.now c.loop-is_plain_rbp.pops.suffix.now c.in-Some.suffix.now pops c.loop-is_plain_rbp.pops.count c.loop-is_plain_rbp.pops.bp_offset_by_8 c.in-Some.is_plain_rbp _ run c.in-Some.ensures.pop c.bp_offset_after_pop.ensures
