use Rattle.framehop_registers.proofs.Laws.{over_none, over_read}
use Rattle.framehop_registers.proofs.callback.one_read_over_words.Goals as goal

pub returns-clause-none : goal.returns-clause-none
returns-clause-none g c = λ state says. over_none says

pub returns-clause-read : goal.returns-clause-read
returns-clause-read g c = λ old new at r fits call says. over_read at r fits call says
