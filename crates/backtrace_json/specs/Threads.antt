-- The stack of a thread as a value of JSON.
use Rattle.std.specs.Prelude.{ℕ, List, [], ◌∷◌, codes, map, Option, Some, None, option_map}
use Rattle.json.specs.Json.{Json, boolean}
use Rattle.backtrace_text.specs.Ends.{error_text}
use Rattle.backtrace_text.specs.Threads.{Backtrace}
use Rattle.backtrace_text.specs.declared.ends.WalkEnd.{WalkEnd}
use Rattle.backtrace_text.specs.declared.ends.WalkEnd.TheVariants.{EndOfStack, Stopped, LimitReached}
use Rattle.backtrace_json.specs.Frames.{frame_value}
use Rattle.backtrace_json.specs.Values.{array_of, number_value, object_of, or_null, text_value}

-- why a walk stopped before the end of its stack, if it did
abbrev pub stop_reason : WalkEnd → Option (List ℕ)
stop_reason EndOfStack = None
stop_reason (Stopped error) = Some (error_text error)
stop_reason LimitReached = Some (codes "limit reached")

-- a text, if it is known
abbrev pub text_if : Option (List ℕ) → Json
text_if text = or_null (option_map text_value text)

-- the stack of a thread
abbrev pub thread_value : Backtrace → Json
thread_value stack = object_of (
    (codes "id", number_value stack.thread.id)
    ∷ (codes "name", text_if stack.thread.name)
    ∷ (codes "got_signal", boolean stack.thread.got_signal)
    ∷ (codes "frames", array_of (map frame_value stack.frames))
    ∷ (codes "stopped", text_if (stop_reason stack.end))
    ∷ [])
