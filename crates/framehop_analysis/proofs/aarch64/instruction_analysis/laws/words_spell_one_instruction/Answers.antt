use Rattle.framehop_analysis.proofs.DistinctWords.{same_instruction}
use Rattle.framehop_analysis.proofs.PrologueReadingAarch64.{same_prologue_instruction}
use Rattle.framehop_analysis.proofs.aarch64.instruction_analysis.laws.words_spell_one_instruction.Goals as goal

pub returns-clause-epilogue : goal.returns-clause-epilogue
returns-clause-epilogue c = same_instruction

pub returns-clause-prologue : goal.returns-clause-prologue
returns-clause-prologue c = same_prologue_instruction
