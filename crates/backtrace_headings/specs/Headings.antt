-- What a core says of its process before its threads.
use Rattle.std.specs.Prelude.{ℕ, ◌==◌, Bool, false, if◌then◌else◌, List, [], ◌++◌, codes, length, slice_get, Option, Some, None, option_and_then}
use Rattle.core_files.specs.CoreFiles.{CoreContents}
use Rattle.core_files.specs.ProcessInfo.{ProcessSaid, process_info}
use Rattle.core_files.specs.SignalInfo.{signal_info}
use Rattle.core_files.specs.declared.signal_info.SignalInfo.{SignalInfo}
use Rattle.core_files.specs.declared.signal_info.SignalOrigin.{SignalOrigin}
use Rattle.core_files.specs.declared.thread.Thread.{Thread}
use Rattle.backtrace_text.specs.Names.{shown_name}
use Rattle.backtrace_text.specs.Threads.{Label}
use Rattle.json_program.specs.Lines.{line}
use Rattle.backtrace_headings.specs.Signals.{origin_text, signal_name}
use Rattle.backtrace_headings.specs.declared.heading.EndSignal.{EndSignal}

-- What a core says of its process: what it runs, and the signal that ended it, if the core says these.
pub record Heading : Type 0 where
  pub process : Option ProcessSaid
  pub signal : Option EndSignal

-- where a signal came from, if this says it of the signal
abbrev pub origin_by : ℕ → Option SignalInfo → Option SignalOrigin
origin_by signal None = None
origin_by signal (Some info) = if info.signal == signal then Some info.origin else None

-- the signal that a thread got, if it got one (pr_cursig isn't 0)
abbrev pub signal_by : Option SignalInfo → Thread → Option EndSignal
signal_by info thread =
    if thread.signal == 0 then None
    else Some (record { thread = thread.id; signal = thread.signal; origin = origin_by thread.signal info })

-- The signal that ended a process: that of the first thread, as Linux and gdb write the one first that got it, with where the core's
-- NT_SIGINFO says that it came from.
abbrev pub signal_of : CoreContents → Option EndSignal
signal_of core = option_and_then (signal_by (signal_info core.siginfo)) (slice_get core.threads 0)

-- what a core says
abbrev pub heading_of : CoreContents → Heading
heading_of core = record { process = process_info core.prpsinfo; signal = signal_of core }

-- the command line of a process, or the name of its program if that is empty
abbrev pub command_of : ProcessSaid → List ℕ
command_of process = if length process.arguments == 0 then process.name else process.arguments

-- a line of the command, if it is known
abbrev pub command_text : Option ProcessSaid → List ℕ
command_text None = []
command_text (Some process) = line (codes "Command: " ++ shown_name (command_of process))

-- where a signal came from, behind its name, if that is known
abbrev pub origin_part : ℕ → Option SignalOrigin → List ℕ
origin_part signal None = []
origin_part signal (Some origin) = codes ", " ++ origin_text signal origin

-- a line of the signal, if there is one
abbrev pub signal_text : Option EndSignal → List ℕ
signal_text None = []
signal_text (Some ended) = line (codes "Signal: " ++ signal_name ended.signal ++ origin_part ended.signal ended.origin)

-- the lines before those of threads
abbrev pub heading_text : Heading → List ℕ
heading_text heading = command_text heading.process ++ signal_text heading.signal

-- the name of the process, which is that of the thread with its id: Linux keeps those of the others out of a core
abbrev pub name_by : Option ProcessSaid → ℕ → Option (List ℕ)
name_by None id = None
name_by (Some process) id = if process.id == id then Some process.name else None

-- the thread with an id got the signal
abbrev pub got_signal : Option EndSignal → ℕ → Bool
got_signal None id = false
got_signal (Some ended) id = ended.thread == id

-- what the line of a thread says
abbrev pub label_of : Heading → ℕ → Label
label_of heading id = record { id = id; name = name_by heading.process id; got_signal = got_signal heading.signal id }
