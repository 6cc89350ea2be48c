-- What contracts see of the course of a walk over a thread's stack.
use Rattle.std.specs.Prelude.{◌≡◌, option_map}
use Rattle.framehop_unwinder.specs.WalkViews.{walk_of}
use Rattle.backtrace_walks.specs.WalkedViews.{frame_seen, next_seen}
use Rattle.backtrace_walks.specs.Walks.{Course, CourseMove}
use Rattle.backtrace_walks.specs.declared.courses.ThreadWalk.{ThreadWalk}
use Rattle.backtrace_walks.specs.declared.walks.NextFrame.{NextFrame}

-- A course.
abbrev pub course_of : {Registers : Type 0} → ThreadWalk Registers → Course Registers
course_of course = record { walk = walk_of course.walk; caller = option_map frame_seen course.caller }

-- A call returns what is next, and leaves the course where it goes on.
abbrev pub IsCourseMove : {Registers : Type 0} → NextFrame Registers → ThreadWalk Registers → CourseMove Registers → Type 0
IsCourseMove next course expected = record { next = next_seen next; course = course_of course } ≡ expected
