-- The frames of a walk up to a limit, and how it ends.
use Rattle.std.specs.Prelude.{ℕ, zero, suc, List, [], ◌∷◌, Option, Some, None, Result, Ok, Err}
use Rattle.backtrace_text.specs.declared.ends.WalkEnd.{WalkEnd}
use Rattle.backtrace_text.specs.declared.ends.WalkEnd.TheVariants.{EndOfStack, Stopped, LimitReached}
use Rattle.framehop_registers.specs.Callback.{Words}
use Rattle.framehop_registers.specs.declared.error.Error.{Error}
use Rattle.framehop_unwinder.specs.Frames.{Frame}
use Rattle.framehop_unwinder.specs.Walk.{Judgment, Walk, move}
use Rattle.framehop_unwinder.specs.WalkViews.{walk_from}
use Rattle.backtrace_walks.specs.declared.registers.ThreadStart.{ThreadStart}

-- A frame of a walk, with its registers.
pub record FrameWith (Registers : Type 0) : Type 0 where
  pub frame : Frame
  pub registers : Registers

-- The frames of a walk, the innermost first, and how it ends.
pub record Stack (Registers : Type 0) : Type 0 where
  pub frames : List (FrameWith Registers)
  pub end : WalkEnd

-- What a walk has next: a frame, or its end.
pub data Next (Registers : Type 0) : Type 0 where
  Reaches : FrameWith Registers → Next Registers
  Ends : WalkEnd → Next Registers

-- What a walk has next, and where it goes on.
pub record Advance (Registers : Type 0) : Type 0 where
  pub next : Next Registers
  pub walk : Walk Registers

-- what is next if a move returned this and left these registers
abbrev pub next_by : {Registers : Type 0} → Result (Option Frame) Error → Registers → Next Registers
next_by (Ok (Some frame)) registers = Reaches (record { frame = frame; registers = registers })
next_by (Ok None) registers = Ends EndOfStack
next_by (Err error) registers = Ends (Stopped error)

-- a walk, or one that begins anew
abbrev pub begun_or : {Registers : Type 0} → Walk Registers → Option (ThreadStart Registers) → Walk Registers
begun_or walk None = walk
begun_or walk (Some start) = walk_from start.pc start.registers

-- A walk after a move that returned this: it begins anew where a signal interrupted the thread, if a handler returns to the frame.
abbrev pub resumed : {Registers : Type 0} → (ℕ → Registers → Option (ThreadStart Registers)) → Result (Option Frame) Error → Walk Registers
    → Walk Registers
resumed interrupted (Ok (Some frame)) walk = begun_or walk (interrupted frame.address walk.registers)
resumed interrupted (Ok None) walk = walk
resumed interrupted (Err error) walk = walk

-- a move of a walk, which goes on behind signals
abbrev pub advance : {Registers : Type 0} → Judgment Registers → (ℕ → Registers → Option (ThreadStart Registers)) → Words → Walk Registers
    → Advance Registers
advance judgment interrupted words walk =
    let made = move judgment words walk in
    record { next = next_by made.answer made.walk.registers; walk = resumed interrupted made.answer made.walk }

-- no more frames
abbrev pub ends_by : {Registers : Type 0} → WalkEnd → Stack Registers
ends_by end = record { frames = []; end = end }

-- a frame, and then the others
abbrev pub frame_before : {Registers : Type 0} → FrameWith Registers → Stack Registers → Stack Registers
frame_before frame others = record { frames = frame ∷ others.frames; end = others.end }

-- the frames from what is next on, where those after its frame are given
abbrev pub frames_by : {Registers : Type 0} → Next Registers → Stack Registers → Stack Registers
frames_by (Reaches frame) others = frame_before frame others
frames_by (Ends end) others = ends_by end

-- The course of a walk over a thread's stack: where the walk is, and the frame that comes before its next move, if there is one.
pub record Course (Registers : Type 0) : Type 0 where
  pub walk : Walk Registers
  pub caller : Option (FrameWith Registers)

-- What a course has next, and where it goes on.
pub record CourseMove (Registers : Type 0) : Type 0 where
  pub next : Next Registers
  pub course : Course Registers

-- a course that is where a walk is
abbrev pub course_at : {Registers : Type 0} → Walk Registers → Course Registers
course_at walk = record { walk = walk; caller = None }

-- a course that begins where a thread is
abbrev pub course_from : {Registers : Type 0} → ThreadStart Registers → Course Registers
course_from start = course_at (walk_from start.pc start.registers)

-- The frames of a course from where it is on, at most so many: move by move, up to the first that gives no frame.
abbrev pub stack_from : {Registers : Type 0} → (Course Registers → CourseMove Registers) → ℕ → Course Registers → Stack Registers
stack_from moved zero course = ends_by LimitReached
stack_from moved (suc left) course =
    let made = moved course in
    frames_by made.next (stack_from moved left made.course)
