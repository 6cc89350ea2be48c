-- The text of a core's stacks in the form that is asked for: lines, or a document of JSON. By parts, and as a whole.
use Rattle.std.specs.Prelude.{ℕ, Bool, true, false, List, [], ◌∷◌, ◌++◌}
use Rattle.std.specs.List.{enumerate_from, flat_map}
use Rattle.backtrace_headings.specs.Headings.{Heading, heading_text}
use Rattle.backtrace_text.specs.Ends.{end_text}
use Rattle.backtrace_text.specs.Frames.{Frame, frame_text}
use Rattle.backtrace_text.specs.Threads.{Backtrace, Label, text_of, thread_line}
use Rattle.backtrace_text.specs.declared.ends.WalkEnd.{WalkEnd}
use Rattle.backtrace_json.specs.Documents.{document_text}
use Rattle.backtrace_json.specs.Parts.{close_json, end_json, frame_json, heading_json, thread_json}
use Rattle.backtrace_json.specs.declared.forms.TextForm.{TextForm}
use Rattle.backtrace_json.specs.declared.forms.TextForm.TheVariants.{Json, Lines}

-- what a core says of its process, and the stacks of its threads
abbrev pub text_in : TextForm → Heading → List Backtrace → List ℕ
text_in Lines heading stacks = heading_text heading ++ text_of stacks
text_in Json heading stacks = document_text heading stacks

-- what stands before the stacks
abbrev pub heading_part : TextForm → Heading → List ℕ
heading_part Lines heading = heading_text heading
heading_part Json heading = heading_json heading

-- what stands before the frames of a thread, behind other threads or none
abbrev pub thread_part : TextForm → Bool → Label → List ℕ
thread_part Lines later thread = thread_line thread
thread_part Json later thread = thread_json later thread

-- a frame of this number
abbrev pub frame_part : TextForm → ℕ → Frame → List ℕ
frame_part Lines number frame = frame_text number frame
frame_part Json number frame = frame_json number frame

-- frames, which are numbered from here on
abbrev pub frames_part : TextForm → ℕ → List Frame → List ℕ
frames_part form first frames = flat_map (λ (number, frame). frame_part form number frame) (enumerate_from first frames)

-- what stands behind the frames of a thread
abbrev pub end_part : TextForm → WalkEnd → List ℕ
end_part Lines end = end_text end
end_part Json end = end_json end

-- the stack of a thread, behind others or none
abbrev pub stack_part : TextForm → Bool → Backtrace → List ℕ
stack_part form later stack = thread_part form later stack.thread ++ frames_part form 0 stack.frames ++ end_part form stack.end

-- the stacks of threads, behind others or none
abbrev pub stacks_part : TextForm → Bool → List Backtrace → List ℕ
stacks_part form later [] = []
stacks_part form later (stack ∷ stacks) = stack_part form later stack ++ stacks_part form true stacks

-- what stands behind the stacks
abbrev pub close_part : TextForm → List ℕ
close_part Lines = []
close_part Json = close_json

-- the parts, one after the other
abbrev pub parts_in : TextForm → Heading → List Backtrace → List ℕ
parts_in form heading stacks = heading_part form heading ++ (stacks_part form false stacks ++ close_part form)
