use Rattle.framehop_analysis.proofs.PrologueReading.{run_and_one, whole_run}
use Rattle.framehop_analysis.proofs.x86_64.instruction_analysis.prologue.pushes_at_end.Goals as goal

pub loop-before-preserved : goal.loop-before-preserved
loop-before-preserved c =
    let (pushes, run) = c.loop-before.invariant in
    run_and_one c.args.bytes.now c.loop-before.prefix.now c.in-Some.before.now pushes c.loop-before.count run c.in-Some.ensures.push

pub returns-clause-run : goal.returns-clause-run
returns-clause-run c =
    let (pushes, run) = c.loop-before.invariant in
    (pushes, whole_run c.args.bytes.now c.loop-before.prefix.now pushes c.loop-before.count run c.in_default.ensures.none, run.counted)
