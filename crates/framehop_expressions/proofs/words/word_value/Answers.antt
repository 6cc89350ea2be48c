use Rattle.std.proofs.Common.{of_calls, Ok, Err}
use Rattle.framehop_registers.proofs.Laws.{over_read}
use Rattle.framehop_expressions.proofs.Turns.{missed-word, read-word}
use Rattle.framehop_expressions.proofs.words.word_value.Goals as goal

pub returns-in-Ok-clause-value : goal.returns-in-Ok-clause-value
returns-in-Ok-clause-value g c =
    over_read c.args.at (Ok c.in-Ok.word) c.ranges.at.fits (search of_calls)
    (λ words is. read-word (words c.args.at) c.args.at c.in-Ok.word is)

pub returns-in-Err-clause-value : goal.returns-in-Err-clause-value
returns-in-Err-clause-value g c =
    over_read c.args.at (Err tt) c.ranges.at.fits (search of_calls) (λ words is. missed-word (words c.args.at) c.args.at is)
