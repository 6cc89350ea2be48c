use Rattle.std.proofs.Common.{List, length}
use Rattle.framehop_analysis.specs.Instructions.{Instruction}
use Rattle.framehop_analysis.specs.EpilogueViews.{IsPopRun}
use Rattle.framehop_analysis.proofs.x86_64.instruction_analysis.epilogue.pops_of.Given as goal

abbrev pub invariant-loop-is_plain_rbp : goal.invariant-loop-is_plain_rbp
invariant-loop-is_plain_rbp l = (pops : List Instruction) × IsPopRun l.bytes pops l.pops.count l.pops.bp_offset_by_8 l.pops.suffix.now

abbrev pub decreases-loop-is_plain_rbp : goal.decreases-loop-is_plain_rbp
decreases-loop-is_plain_rbp l = length l.pops.suffix.now
