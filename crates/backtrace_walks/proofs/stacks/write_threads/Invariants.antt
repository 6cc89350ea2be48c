use Rattle.std.proofs.Common.{◌≡◌, false}
use Rattle.json_program.specs.Stream.{IsWritten}
use Rattle.backtrace_walks.specs.ProcessViews.{IsSessionOf, process_seen}
use Rattle.backtrace_walks.specs.StackTexts.{threads_text}
use Rattle.backtrace_walks.proofs.ThreadLaws.{text_left}
use Rattle.backtrace_walks.proofs.stacks.write_threads.Given as goal

-- what is written and the stacks of the threads that are left make the text of all
abbrev pub invariant-loop-thread : goal.invariant-loop-thread
invariant-loop-thread g l =
    let stacks = g.A.ThreadArch.stacks in
    let process = process_seen l.process in
    record {
      failed : g.W.Sink.has_failed l.sink ≡ false;
      session : IsSessionOf l.process l.session;
      stands : IsWritten (g.W.Sink.contents l.fn.sink) (g.W.Sink.contents l.sink) (text_left stacks process l.options l.later l.thread-index l.threads)
          (threads_text stacks process l.options l.threads);
    }
