-- The backtraces of a core's threads.
use Rattle.std.specs.Prelude.{ℕ, ◌-◌, ◌==◌, ◌&&◌, ◌||◌, Bool, true, nat_lt, not, if◌then◌else◌, List, [], map, Option, Some, None, option_and_then, unwrap_or}
use Rattle.std.specs.List.{filter_map}
use Rattle.std.specs.Option.{option_map}
use Rattle.backtrace_files.specs.Files.{ProcessFile, ranges_of}
use Rattle.backtrace_files.specs.Locations.{location_of, may_be_code_at}
use Rattle.backtrace_files.specs.ProcessFiles.{Given, process_files}
use Rattle.backtrace_headings.specs.Headings.{Heading, heading_of, label_of}
use Rattle.backtrace_json.specs.Forms.{text_in}
use Rattle.backtrace_text.specs.Frames as seen
use Rattle.backtrace_text.specs.Threads.{Backtrace}
use Rattle.core_files.specs.CoreFiles.{CoreContents}
use Rattle.core_files.specs.Memory.{executable_at, word_at}
use Rattle.core_files.specs.Ranges.{KnownRange}
use Rattle.core_files.specs.declared.thread.Thread.{Thread}
use Rattle.elf_files.specs.declared.header.Machine.{Machine}
use Rattle.elf_files.specs.declared.header.Machine.TheVariants.{X86_64, Aarch64}
use Rattle.framehop_loads.specs.UnwindData.{UnwindData}
use Rattle.framehop_registers.specs.Callback.{Words}
use Rattle.framehop_unwinder.specs.Frames.{later_frame, lookup_address}
use Rattle.framehop_unwinder.specs.Modules.{Loaded}
use Rattle.framehop_unwinder.specs.Walk.{Walk}
use Rattle.framehop_unwinder.specs.WalkViews.{walk_at}
use Rattle.backtrace_walks.specs.Modules.{modules_of}
use Rattle.backtrace_walks.specs.StackMeanings.{StackMeanings, advance_by, stacks_aarch64, stacks_x86_64}
use Rattle.backtrace_walks.specs.Walks.{Advance, Course, CourseMove, Ends, FrameWith, Next, Reaches, Stack, begun_or, course_at, course_from, stack_from}
use Rattle.backtrace_walks.specs.declared.backtraces.BacktraceOptions.{BacktraceOptions}
use Rattle.backtrace_walks.specs.declared.backtraces.FrameOptions.{FrameOptions}
use Rattle.backtrace_walks.specs.declared.calls.CallSite.{CallSite}
use Rattle.backtrace_walks.specs.declared.registers.ThreadStart.{ThreadStart}

-- What a process has: its files, the modules that these are, the words of its memory, where there is code, and what its core says of it.
pub record Process : Type 0 where
  pub files : List ProcessFile
  pub modules : List (Loaded UnwindData)
  pub words : Words
  pub is_code : ℕ → Bool
  pub heading : Heading

-- there is code at an address: it may be executed, as the core's segments say, or if none contains it, if a file may have code there
abbrev pub is_code_in : List KnownRange → List ProcessFile → ℕ → Bool
is_code_in segments files address = unwrap_or (executable_at segments address) (may_be_code_at files address)

-- the process of a core with these files
abbrev pub process_with : CoreContents → List ProcessFile → Process
process_with core files = record {
  files = files;
  modules = modules_of files;
  words = word_at core.segments (ranges_of files);
  is_code = is_code_in core.segments files;
  heading = heading_of core;
}

-- the registers of a frame, if they are shown
abbrev pub registers_if : {Rule Registers : Type 0} → StackMeanings Rule Registers → Bool → Registers → List seen.Register
registers_if stacks are_shown registers = if are_shown then stacks.shown registers else []

-- the code that handlers return to, or else that at an address, by the files that another address is mapped from
abbrev pub location_or : {Registers : Type 0} → Option (ThreadStart Registers) → List ProcessFile → ℕ → ℕ → seen.Location
location_or None files address lookup = location_of files address lookup
location_or (Some start) files address lookup = seen.SignalTrampoline

-- Where the code of a frame is: its function and its file are looked up by the address that its unwind data is looked up by, which is
-- one less behind a call.
abbrev pub location_of_frame : {Rule Registers : Type 0} → StackMeanings Rule Registers → Process → FrameWith Registers → seen.Location
location_of_frame stacks process frame =
    location_or (stacks.interrupted process.words frame.frame.address frame.registers) process.files frame.frame.address (lookup_address frame.frame)

-- a frame as it is shown
abbrev pub shown_frame : {Rule Registers : Type 0} → StackMeanings Rule Registers → Process → FrameOptions → FrameWith Registers → seen.Frame
shown_frame stacks process options frame = record {
  location = location_of_frame stacks process frame;
  names = options.names;
  registers = registers_if stacks options.registers frame.registers;
}

-- the frames of a walk with how it ends, as the backtrace of a thread
abbrev pub shown_stack : {Rule Registers : Type 0} → StackMeanings Rule Registers → Process → FrameOptions → ℕ → Stack Registers → Backtrace
shown_stack stacks process options thread stack = record {
  thread = label_of process.heading thread;
  frames = map (shown_frame stacks process options) stack.frames;
  end = stack.end;
}

-- a move of a walk over a stack of a process
abbrev pub advance_of_thread : {Rule Registers : Type 0} → StackMeanings Rule Registers → Process → Walk Registers → Advance Registers
advance_of_thread stacks process walk = advance_by stacks process.modules process.words process.words walk

-- the frame that made a call, if it returns to behind code of the process
abbrev pub frame_of_call : {Registers : Type 0} → Process → CallSite Registers → Option (FrameWith Registers)
frame_of_call process site =
    if nat_lt 0 site.return_address && process.is_code (site.return_address - 1)
    then Some (record { frame = later_frame site.return_address; registers = site.registers })
    else None

-- The frame that called an address without code. Only the frame that a thread is in, or that a signal interrupted, can be at such an address:
-- each other one is where a call returns to.
abbrev pub caller_of : {Rule Registers : Type 0} → StackMeanings Rule Registers → Process → FrameWith Registers → Option (FrameWith Registers)
caller_of stacks process frame =
    if not frame.frame.is_first || process.is_code frame.frame.address then None
    else option_and_then (frame_of_call process) (stacks.called process.words frame.registers)

-- a walk that goes on from a frame, or from where a signal interrupted the thread, if a handler returns to the frame
abbrev pub walk_on : {Rule Registers : Type 0} → StackMeanings Rule Registers → Process → FrameWith Registers → Walk Registers
walk_on stacks process frame =
    begun_or (walk_at frame.frame frame.registers) (stacks.interrupted process.words frame.frame.address frame.registers)

-- a course behind a frame, by the frame that called it, if it is at an address without code
abbrev pub course_by : {Rule Registers : Type 0} → StackMeanings Rule Registers → Process → Option (FrameWith Registers) → Walk Registers
    → Course Registers
course_by stacks process None walk = course_at walk
course_by stacks process (Some caller) walk = record { walk = walk_on stacks process caller; caller = Some caller }

-- the frame that called what was next, if it is at an address without code
abbrev pub caller_behind : {Rule Registers : Type 0} → StackMeanings Rule Registers → Process → Next Registers → Option (FrameWith Registers)
caller_behind stacks process (Reaches frame) = caller_of stacks process frame
caller_behind stacks process (Ends end) = None

-- a course behind what was next
abbrev pub course_behind : {Rule Registers : Type 0} → StackMeanings Rule Registers → Process → Next Registers → Walk Registers
    → Course Registers
course_behind stacks process next walk = course_by stacks process (caller_behind stacks process next) walk

-- a move of a course over a stack of a process: to the frame that is known, or else a move of its walk
abbrev pub course_move : {Rule Registers : Type 0} → StackMeanings Rule Registers → Process → Course Registers → CourseMove Registers
course_move stacks process course = elim course.caller [
  | Some frame ↦ record { next = Reaches frame; course = course_at course.walk }
  | None ↦
      let made = advance_of_thread stacks process course.walk in
      record { next = made.next; course = course_behind stacks process made.next made.walk }
]

-- the walk over a stack of a process from where a thread is
abbrev pub walk_of_thread : {Rule Registers : Type 0} → StackMeanings Rule Registers → Process → ℕ → ThreadStart Registers → Stack Registers
walk_of_thread stacks process limit start = stack_from (course_move stacks process) limit (course_from start)

-- the backtrace of a thread whose walk begins here
abbrev pub backtrace_from : {Rule Registers : Type 0} → StackMeanings Rule Registers → Process → BacktraceOptions → ℕ → ThreadStart Registers
    → Backtrace
backtrace_from stacks process options thread start =
    shown_stack stacks process options.frames thread (walk_of_thread stacks process options.limit start)

-- a thread is asked for
abbrev pub is_chosen : Option ℕ → ℕ → Bool
is_chosen None id = true
is_chosen (Some thread) id = thread == id

-- the backtrace of a thread, if it is asked for and has registers of the architecture
abbrev pub backtrace_of : {Rule Registers : Type 0} → StackMeanings Rule Registers → Process → BacktraceOptions → Thread → Option Backtrace
backtrace_of stacks process options thread =
    if is_chosen options.thread thread.id then option_map (backtrace_from stacks process options thread.id) (stacks.start thread) else None

-- the backtraces of threads, in their order
abbrev pub backtraces_of : {Rule Registers : Type 0} → StackMeanings Rule Registers → Process → BacktraceOptions → List Thread → List Backtrace
backtraces_of stacks process options threads = filter_map (backtrace_of stacks process options) threads

-- the backtraces of a core's threads by its files, on an architecture
abbrev pub backtraces_by : {Rule Registers : Type 0} → StackMeanings Rule Registers → CoreContents → List ProcessFile → BacktraceOptions
    → List Backtrace
backtraces_by stacks core files options = backtraces_of stacks (process_with core files) options core.threads

-- those on a machine
abbrev pub backtraces_on : Machine → CoreContents → List ProcessFile → BacktraceOptions → List Backtrace
backtraces_on X86_64 core files options = backtraces_by stacks_x86_64 core files options
backtraces_on Aarch64 core files options = backtraces_by stacks_aarch64 core files options

-- those on the core's machine
abbrev pub backtraces_with : CoreContents → List ProcessFile → BacktraceOptions → List Backtrace
backtraces_with core files options = backtraces_on core.machine core files options

-- those of a core, where the bytes of its mapped files are given
abbrev pub core_backtraces : CoreContents → List Given → BacktraceOptions → List Backtrace
core_backtraces core given options = backtraces_with core (process_files core given) options

-- what a core says of its process, and its backtraces, in the form that is asked for
abbrev pub core_text : CoreContents → List Given → BacktraceOptions → List ℕ
core_text core given options = text_in options.form (heading_of core) (core_backtraces core given options)
