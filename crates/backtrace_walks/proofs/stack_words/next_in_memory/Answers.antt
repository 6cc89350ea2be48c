use Rattle.std.proofs.Common.{sym}
use Rattle.core_files.specs.MemoryViews.{word_of}
use Rattle.backtrace_walks.proofs.StillCallback.{answers_always}
use Rattle.backtrace_walks.proofs.stack_words.next_in_memory.Goals as goal

pub returns-clause-next : goal.returns-clause-next
returns-clause-next g c =
    c.next_frame.ensures.next.said (word_of c.args.memory.now)
    (answers_always _ _ _ (λ at r next fits read. sym read.met.1.1) (λ at r next fits read. read.met.0))
