-- The document of a core's stacks by parts, as they are written one after the other.
use Rattle.std.specs.Prelude.{ℕ, nat_lt, Bool, if◌then◌else◌, List, [], ◌∷◌, ◌++◌, codes, map, Option, option_map, option_and_then}
use Rattle.core_files.specs.declared.signal_info.SignalOrigin.{SignalOrigin}
use Rattle.json.specs.Json.{boolean}
use Rattle.json.specs.Print.{print}
use Rattle.json.specs.Token.{Token}
use Rattle.json.specs.Tree.{json_tokens}
use Rattle.json_program.specs.Lines.{line}
use Rattle.backtrace_headings.specs.Headings.{Heading}
use Rattle.backtrace_text.specs.FrameViews.{offset_view, register_view}
use Rattle.backtrace_text.specs.Frames.{Frame, Offset, Register}
use Rattle.backtrace_text.specs.Threads.{Label}
use Rattle.backtrace_text.specs.declared.ends.WalkEnd.{WalkEnd}
use Rattle.backtrace_text.specs.declared.frames.NamedOffset.{NamedOffset}
use Rattle.backtrace_text.specs.declared.frames.RegisterValue.{RegisterValue}
use Rattle.backtrace_text.specs.declared.names.FunctionNames.{FunctionNames}
use Rattle.backtrace_json.specs.Frames.{file_value, frame_value, function_value, offset_value, value_by_parts}
use Rattle.backtrace_json.specs.Headings.{cause_text, command_value, fault_address, sender_of, signal_value}
use Rattle.backtrace_json.specs.Threads.{stop_reason, text_if}
use Rattle.backtrace_json.specs.Values.{address_value, json_text, number_value, or_null}

-- a comma, if an element stands before
abbrev pub comma_if : Bool → List ℕ
comma_if later = if later then codes "," else []

-- the tokens of a frame's function
abbrev pub function_tokens : FunctionNames → Option Offset → List Token
function_tokens names function =
    Token.key (codes "function") ∷ json_tokens (function_value names function)
    ++ Token.key (codes "offset") ∷ json_tokens (offset_value function)

-- the tokens of a frame's file
abbrev pub file_tokens : Option Offset → List Token
file_tokens file =
    Token.key (codes "file") ∷ json_tokens (file_value file) ++ Token.key (codes "file_offset") ∷ json_tokens (offset_value file)

-- the tokens of a register
abbrev pub register_tokens : Register → List Token
register_tokens register = Token.key register.name ∷ json_tokens (address_value register.value)

-- the tokens of a frame, by its parts
abbrev pub frame_tokens : FunctionNames → Option ℕ → (function file : Option NamedOffset) → List RegisterValue → List Token
frame_tokens names address function file registers =
    json_tokens (value_by_parts names address (option_map offset_view function) (option_map offset_view file) (map register_view registers))

-- the tokens of where a signal came from
abbrev pub origin_tokens : ℕ → Option SignalOrigin → List Token
origin_tokens signal origin =
    Token.key (codes "cause") ∷ json_tokens (text_if (option_map (cause_text signal) origin))
    ++ Token.key (codes "address") ∷ json_tokens (or_null (option_map address_value (option_and_then fault_address origin)))
    ++ Token.key (codes "sender") ∷ json_tokens (or_null (option_and_then sender_of origin))

-- the tokens before the stacks
abbrev pub heading_tokens : Heading → List Token
heading_tokens heading =
    Token.begin_object
    ∷ Token.key (codes "command") ∷ json_tokens (command_value heading.process)
    ++ Token.key (codes "signal") ∷ json_tokens (signal_value heading.signal)
    ++ Token.key (codes "threads") ∷ Token.begin_array ∷ []

-- the text before the stacks
abbrev pub heading_json : Heading → List ℕ
heading_json heading = print (heading_tokens heading)

-- the tokens of a thread before its frames
abbrev pub thread_tokens : Label → List Token
thread_tokens thread =
    Token.begin_object
    ∷ Token.key (codes "id") ∷ json_tokens (number_value thread.id)
    ++ Token.key (codes "name") ∷ json_tokens (text_if thread.name)
    ++ Token.key (codes "got_signal") ∷ json_tokens (boolean thread.got_signal)
    ++ Token.key (codes "frames") ∷ Token.begin_array ∷ []

-- the text of a thread before its frames
abbrev pub thread_json : Bool → Label → List ℕ
thread_json later thread = comma_if later ++ print (thread_tokens thread)

-- a frame of this number, from 0
abbrev pub frame_json : ℕ → Frame → List ℕ
frame_json number frame = comma_if (nat_lt 0 number) ++ json_text (frame_value frame)

-- the tokens of a thread behind its frames
abbrev pub end_tokens : WalkEnd → List Token
end_tokens end = Token.end_array ∷ Token.key (codes "stopped") ∷ json_tokens (text_if (stop_reason end)) ++ Token.end_object ∷ []

-- the text of a thread behind its frames
abbrev pub end_json : WalkEnd → List ℕ
end_json end = print (end_tokens end)

-- the text behind the stacks
abbrev pub close_json : List ℕ
close_json = line (codes "]}")
