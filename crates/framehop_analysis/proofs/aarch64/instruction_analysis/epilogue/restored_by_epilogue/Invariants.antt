use Rattle.std.proofs.Common.{List, length}
use Rattle.framehop_analysis.specs.EpilogueInstructionsAarch64.{EpilogueInstruction}
use Rattle.framehop_analysis.proofs.EpilogueReadingAarch64.{IsPrefix}
use Rattle.framehop_analysis.proofs.aarch64.instruction_analysis.epilogue.restored_by_epilogue.Given as goal

abbrev pub invariant-loop-kind : goal.invariant-loop-kind
invariant-loop-kind l = (done : List EpilogueInstruction) × IsPrefix l.bytes done l.rest l.restored

abbrev pub decreases-loop-kind : goal.decreases-loop-kind
decreases-loop-kind l = length l.rest
