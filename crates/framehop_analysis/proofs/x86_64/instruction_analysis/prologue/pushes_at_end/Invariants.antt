use Rattle.std.proofs.Common.{List, length}
use Rattle.framehop_analysis.specs.Instructions.{Instruction}
use Rattle.framehop_analysis.specs.PrologueViews.{IsGreedyRun}
use Rattle.framehop_analysis.proofs.x86_64.instruction_analysis.prologue.pushes_at_end.Given as goal

abbrev pub invariant-loop-before : goal.invariant-loop-before
invariant-loop-before l = (pushes : List Instruction) × IsGreedyRun l.bytes l.prefix pushes l.count

abbrev pub decreases-loop-before : goal.decreases-loop-before
decreases-loop-before l = length l.prefix
