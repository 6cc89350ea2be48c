use Rattle.std.proofs.Common.{◌≡◌, false}
use Rattle.backtrace_walks.specs.CourseViews.{course_of}
use Rattle.json_program.specs.Stream.{IsWritten}
use Rattle.backtrace_walks.specs.ProcessViews.{IsSessionOf, process_seen}
use Rattle.backtrace_walks.specs.StackTexts.{walk_text}
use Rattle.backtrace_walks.proofs.ProcessWalks.{text_left}
use Rattle.backtrace_walks.proofs.stacks.write_walk.Given as goal

-- what is written and the lines of the frames that are left make the lines of the whole walk
abbrev pub invariant-loop-number : goal.invariant-loop-number
invariant-loop-number g l =
    let stacks = g.A.ThreadArch.stacks in
    record {
      failed : g.W.Sink.has_failed l.sink ≡ false;
      session : IsSessionOf l.process l.session;
      stands : IsWritten (g.W.Sink.contents l.fn.sink) (g.W.Sink.contents l.sink) (text_left stacks l.process l.options l.number (course_of l.course))
          (walk_text stacks (process_seen l.process) l.options l.start);
    }
