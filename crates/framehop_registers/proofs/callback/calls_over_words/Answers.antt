use Rattle.framehop_registers.proofs.Laws.{over_weaker, over_both}
use Rattle.framehop_registers.proofs.callback.calls_over_words.Goals as goal

pub returns-clause-weaker : goal.returns-clause-weaker
returns-clause-weaker g c = λ old new call follows. over_weaker call follows

pub returns-clause-both : goal.returns-clause-both
returns-clause-both g c = λ old mid new first second follows. over_both first second follows
