-- The text of the backtraces of threads.
use Rattle.std.specs.Prelude.{ℕ, Bool, if◌then◌else◌, List, [], ◌++◌, codes, decimal, Option, Some, None}
use Rattle.std.specs.List.{enumerate_from, flat_map}
use Rattle.json_program.specs.Lines.{line}
use Rattle.backtrace_text.specs.Ends.{end_text}
use Rattle.backtrace_text.specs.Frames.{Frame, frame_text}
use Rattle.backtrace_text.specs.Names.{shown_name}
use Rattle.backtrace_text.specs.declared.ends.WalkEnd.{WalkEnd}

-- What the line of a thread says: the number that the system has for it, its name, if that is known, and whether it got the signal that
-- ended the process.
pub record Label : Type 0 where
  pub id : ℕ
  pub name : Option (List ℕ)
  pub got_signal : Bool

-- The backtrace of a thread: its label, its frames, the innermost first, and how the walk over them ended.
pub record Backtrace : Type 0 where
  pub thread : Label
  pub frames : List Frame
  pub end : WalkEnd

-- a name in quotation marks, if it is known
abbrev pub name_part : Option (List ℕ) → List ℕ
name_part None = []
name_part (Some name) = codes " \"" ++ shown_name name ++ codes "\""

-- that a thread got the signal, if it did
unfoldable pub signal_part : Bool → List ℕ
signal_part got_signal = if got_signal then codes ", got the signal" else []

-- the line of a thread
abbrev pub thread_line : Label → List ℕ
thread_line thread = line (codes "Thread " ++ decimal thread.id ++ name_part thread.name ++ signal_part thread.got_signal ++ codes ":")

-- the lines of frames, which are numbered from here on
abbrev pub frames_text : ℕ → List Frame → List ℕ
frames_text first frames = flat_map (λ (number, frame). frame_text number frame) (enumerate_from first frames)

-- the lines of a backtrace, whose frames are numbered from 0
abbrev pub backtrace_text : Backtrace → List ℕ
backtrace_text backtrace = thread_line backtrace.thread ++ frames_text 0 backtrace.frames ++ end_text backtrace.end

-- the text of backtraces, one after the other
abbrev pub text_of : List Backtrace → List ℕ
text_of backtraces = flat_map backtrace_text backtraces
