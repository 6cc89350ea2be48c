use Rattle.framehop_analysis.proofs.OneEpilogueAarch64.{one_epilogue}
use Rattle.framehop_analysis.proofs.PrologueReadingAarch64.{one_prologue}
use Rattle.framehop_analysis.proofs.aarch64.instruction_analysis.laws.offsets_have_one_list.Goals as goal

pub returns-clause-epilogue : goal.returns-clause-epilogue
returns-clause-epilogue c = one_epilogue

pub returns-clause-prologue : goal.returns-clause-prologue
returns-clause-prologue c = one_prologue
