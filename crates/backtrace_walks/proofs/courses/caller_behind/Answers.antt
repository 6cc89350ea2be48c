use Rattle.std.proofs.Common.{◌∙◌}
use Rattle.backtrace_walks.specs.ProcessViews.{process_seen}
use Rattle.backtrace_walks.proofs.CourseLaws.{by_frame}
use Rattle.backtrace_walks.proofs.courses.caller_behind.Goals as goal

pub returns-in-Frame : goal.returns-in-Frame
returns-in-Frame g c =
    c.caller_of.ensures ∙ by_frame g.A.ThreadArch.stacks (process_seen c.args.process.now) c.args.next.now c.in-Frame.frame c.in-Frame.is
