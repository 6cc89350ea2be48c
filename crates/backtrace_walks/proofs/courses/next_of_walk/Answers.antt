use Rattle.std.proofs.Common.{List, subst}
use Rattle.core_files.specs.MemoryViews.{word_of}
use Rattle.framehop_loads.specs.UnwindData.{UnwindData}
use Rattle.framehop_unwinder.specs.Modules.{Loaded}
use Rattle.framehop_unwinder.specs.WalkViews.{walk_of}
use Rattle.backtrace_walks.specs.StackMeanings.{advance_by}
use Rattle.backtrace_walks.specs.WalkedViews.{IsAdvance}
use Rattle.backtrace_walks.proofs.SessionLaws.{keeps_has}
use Rattle.backtrace_walks.proofs.courses.next_of_walk.Goals as goal

pub returns-clause-next : goal.returns-clause-next
returns-clause-next g c =
    let words = word_of c.args.process.now.memory in
    let moved = c.next_in_memory in
    subst (λ (ms : List (Loaded UnwindData)). IsAdvance moved.result moved.new.walk (advance_by g.A.ThreadArch.stacks ms words words (walk_of c.args.walk.now)))
    c.requires.modules moved.ensures.next

pub returns-clause-session : goal.returns-clause-session
returns-clause-session g c = keeps_has c.args.session.now c.next_in_memory.new.session _ c.requires c.next_in_memory.ensures.session
