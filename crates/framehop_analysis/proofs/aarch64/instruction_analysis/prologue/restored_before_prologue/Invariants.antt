use Rattle.std.proofs.Common.{List, length}
use Rattle.framehop_analysis.specs.PrologueInstructionsAarch64.{PrologueInstruction}
use Rattle.framehop_analysis.proofs.PrologueReadingAarch64.{IsGreedyRun}
use Rattle.framehop_analysis.proofs.aarch64.instruction_analysis.prologue.restored_before_prologue.Given as goal

abbrev pub invariant-loop-before : goal.invariant-loop-before
invariant-loop-before l = (instructions : List PrologueInstruction) × IsGreedyRun l.bytes l.prefix instructions l.restored

abbrev pub decreases-loop-before : goal.decreases-loop-before
decreases-loop-before l = length l.prefix
