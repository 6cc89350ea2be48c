use Rattle.framehop_unwinder.specs.WalkViews.{walk_of}
use Rattle.backtrace_walks.specs.ProcessViews.{process_seen}
use Rattle.backtrace_walks.proofs.CourseLaws.{by_caller}
use Rattle.backtrace_walks.proofs.courses.course_by.Goals as goal

pub returns-in-Some : goal.returns-in-Some
returns-in-Some g c =
    by_caller g.A.ThreadArch.stacks (process_seen c.args.process.now) c.args.caller c.in-Some.caller (walk_of c.args.walk) (walk_of c.walk_on.result)
    c.in-Some.is c.walk_on.ensures
