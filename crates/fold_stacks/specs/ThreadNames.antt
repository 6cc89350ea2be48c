-- What threads are called, by the records alone.
use Rattle.std.specs.Prelude.{ℕ, ◌==◌, if◌then◌else◌, List, Option, Some, None, Ok}
use Rattle.std.specs.Option.{option_or}
use Rattle.perf_files.specs.FieldResults.{FieldResult, and_then}
use Rattle.perf_files.specs.Records.{RecordParts}
use Rattle.perf_files.specs.Tasks.{CommandParts, command_of, task_of}
use Rattle.perf_files.specs.declared.attributes.Attributes.{Attributes}
use Rattle.perf_files.specs.declared.command.Task.{Task}
use Rattle.perf_files.specs.declared.fields.ThreadId.{ThreadId}
use Rattle.perf_files.specs.declared.record.RecordKind.{RecordKind}
use Rattle.perf_files.specs.declared.record.RecordKind.TheVariants.{Command, Fork, Exit}
use Rattle.perf_processes.specs.Processes.{parent_thread, task_thread}
use Rattle.fold_stacks.specs.Comms.{ended_with, is_thread}
use Rattle.fold_stacks.specs.FrameTexts.{comm_text}

-- What threads are called, and what those were called that ended.
pub record ThreadNames : Type 0 where
  pub alive : ThreadId → Option (List ℕ)
  pub ended : ThreadId → Option (List ℕ)

-- before the first record
abbrev pub no_thread_names : ThreadNames
no_thread_names = record { alive = λ thread. None; ended = λ thread. None }

-- what a thread is called, or was before it ended
abbrev pub called_by : ThreadNames → ThreadId → List ℕ
called_by names thread = comm_text (option_or (names.alive thread) (names.ended thread)) thread.pid

-- names, of which a thread has this one, or none
abbrev pub renamed : ThreadId → Option (List ℕ) → (ThreadId → Option (List ℕ)) → ThreadId → Option (List ℕ)
renamed thread name names = λ other. if is_thread thread other then name else names other

-- names without those of a process
abbrev pub without_process : ℕ → (ThreadId → Option (List ℕ)) → ThreadId → Option (List ℕ)
without_process pid names = λ thread. if thread.pid == pid then None else names thread

-- names after a thread is given one
abbrev pub command_names : CommandParts → ThreadNames → ThreadNames
command_names command names = record { alive = renamed command.thread (Some command.name) names.alive; ended = names.ended }

-- the names that stay when a task starts: all but those of an earlier process of its number
abbrev pub others_alive : Task → ThreadNames → ThreadId → Option (List ℕ)
others_alive task names = if task.pid == task.parent_pid then names.alive else without_process task.pid names.alive

-- names after the start of a task, which is called as the one that started it
abbrev pub fork_names : Task → ThreadNames → ThreadNames
fork_names task names =
    record { alive = renamed (task_thread task) (names.alive (parent_thread task)) (others_alive task names); ended = names.ended }

-- names after the end of a task
abbrev pub exit_names : Task → ThreadNames → ThreadNames
exit_names task names = record {
  alive = renamed (task_thread task) None names.alive;
  ended = ended_with (task_thread task) (names.alive (task_thread task)) names.ended;
}

-- names after a record
abbrev pub names_by : RecordKind → Attributes → RecordParts → ThreadNames → FieldResult ThreadNames
names_by Command attributes found names = and_then (command_of attributes found) (λ command. Ok (command_names command names))
names_by Fork attributes found names = and_then (task_of attributes found) (λ task. Ok (fork_names task names))
names_by Exit attributes found names = and_then (task_of attributes found) (λ task. Ok (exit_names task names))
names_by _ attributes found names = Ok names
