-- The text of the stacks of threads, by parts, in the form that is asked for.
use Rattle.std.specs.Prelude.{ℕ, ◌||◌, Bool, false, List, map, ◌++◌, is_some}
use Rattle.std.specs.Option.{option_to_list}
use Rattle.backtrace_files.specs.Files.{ProcessFile}
use Rattle.backtrace_json.specs.Forms.{end_part, frames_part, stack_part, stacks_part}
use Rattle.backtrace_json.specs.declared.forms.TextForm.{TextForm}
use Rattle.backtrace_text.specs.Frames as seen
use Rattle.core_files.specs.CoreFiles.{CoreContents}
use Rattle.core_files.specs.declared.thread.Thread.{Thread}
use Rattle.backtrace_walks.specs.Backtraces.{Process, backtrace_from, backtrace_of, backtraces_by, backtraces_of, backtraces_with, shown_frame, walk_of_thread}
use Rattle.backtrace_walks.specs.StackMeanings.{StackMeanings}
use Rattle.backtrace_walks.specs.Walks.{FrameWith, Stack}
use Rattle.backtrace_walks.specs.declared.backtraces.BacktraceOptions.{BacktraceOptions}
use Rattle.backtrace_walks.specs.declared.registers.ThreadStart.{ThreadStart}

-- the frames of a walk, which are numbered from here on, and how it ends
abbrev pub stack_text : {Registers : Type 0} → TextForm → (FrameWith Registers → seen.Frame) → ℕ → Stack Registers → List ℕ
stack_text form shown first stack = frames_part form first (map shown stack.frames) ++ end_part form stack.end

-- those of the walk over a stack of a process from where a thread is
abbrev pub walk_text : {Rule Registers : Type 0} → StackMeanings Rule Registers → Process → BacktraceOptions → ThreadStart Registers → List ℕ
walk_text stacks process options start =
    stack_text options.form (shown_frame stacks process options.frames) 0 (walk_of_thread stacks process options.limit start)

-- the text of a thread whose walk begins here, behind others or none
abbrev pub text_at : {Rule Registers : Type 0} → StackMeanings Rule Registers → Process → BacktraceOptions → Bool → ℕ → ThreadStart Registers
    → List ℕ
text_at stacks process options later thread start = stack_part options.form later (backtrace_from stacks process options thread start)

-- that of a thread, if it has a backtrace
abbrev pub text_for : {Rule Registers : Type 0} → StackMeanings Rule Registers → Process → BacktraceOptions → Bool → Thread → List ℕ
text_for stacks process options later thread = stacks_part options.form later (option_to_list (backtrace_of stacks process options thread))

-- a thread behind this one stands behind others
abbrev pub is_later : {Rule Registers : Type 0} → StackMeanings Rule Registers → Process → BacktraceOptions → Bool → Thread → Bool
is_later stacks process options later thread = later || is_some (backtrace_of stacks process options thread)

-- the text of threads, in their order
abbrev pub threads_text : {Rule Registers : Type 0} → StackMeanings Rule Registers → Process → BacktraceOptions → List Thread → List ℕ
threads_text stacks process options threads = stacks_part options.form false (backtraces_of stacks process options threads)

-- that of a core's threads by its files, on an architecture
abbrev pub text_by : {Rule Registers : Type 0} → StackMeanings Rule Registers → CoreContents → List ProcessFile → BacktraceOptions → List ℕ
text_by stacks core files options = stacks_part options.form false (backtraces_by stacks core files options)

-- that on the core's machine
abbrev pub text_with : CoreContents → List ProcessFile → BacktraceOptions → List ℕ
text_with core files options = stacks_part options.form false (backtraces_with core files options)
