-- What contracts see of a process.
use Rattle.std.specs.Prelude.{ℕ, List}
use Rattle.backtrace_files.specs.FileViews.{files_seen}
use Rattle.backtrace_headings.specs.HeadingViews.{heading_view}
use Rattle.backtrace_json.specs.Forms.{frame_part}
use Rattle.core_files.specs.MemoryViews.{segments_of, word_of}
use Rattle.framehop_loads.specs.UnwindData.{UnwindData}
use Rattle.framehop_unwinder.specs.State.{SessionState}
use Rattle.backtrace_walks.specs.Backtraces.{Process, is_code_in, shown_frame}
use Rattle.backtrace_walks.specs.Modules.{modules_of}
use Rattle.backtrace_walks.specs.SessionViews.{HasModules}
use Rattle.backtrace_walks.specs.StackMeanings.{StackMeanings}
use Rattle.backtrace_walks.specs.WalkedViews.{frame_seen}
use Rattle.backtrace_walks.specs.declared.backtraces.CoreProcess.{CoreProcess}
use Rattle.backtrace_walks.specs.declared.backtraces.BacktraceOptions.{BacktraceOptions}
use Rattle.backtrace_walks.specs.declared.walks.WalkedFrame.{WalkedFrame}

-- A process.
abbrev pub process_seen : CoreProcess → Process
process_seen process = record {
  files = files_seen process.files.now;
  modules = modules_of (files_seen process.files.now);
  words = word_of process.memory;
  is_code = is_code_in (segments_of process.memory) (files_seen process.files.now);
  heading = heading_view process.heading;
}

-- A session has the modules of a process.
abbrev pub IsSessionOf : {Rule : Type 0} → CoreProcess → SessionState UnwindData Rule → Type 0
IsSessionOf process session = HasModules (modules_of (files_seen process.files.now)) session

-- The text of a frame of a process's stack of this number.
abbrev pub walked_text : {Rule Registers : Type 0} → StackMeanings Rule Registers → CoreProcess → BacktraceOptions → ℕ → WalkedFrame Registers
    → List ℕ
walked_text stacks process options number frame =
    frame_part options.form number (shown_frame stacks (process_seen process) options.frames (frame_seen frame))
