-- Processes by the changes so far: what they have mapped, and their threads with their names.
use Rattle.std.specs.Prelude.{ℕ, ◌+◌, ◌==◌, ◌&&◌, not, nat_le, if◌then◌else◌, Bool, List, [], ◌∷◌, ◌++◌, map, Option, Some, None}
use Rattle.std.specs.List.{filter, find, list_any}
use Rattle.list_laws.specs.Last.{last_of}
use Rattle.perf_files.specs.declared.command.Task.{Task}
use Rattle.perf_files.specs.declared.fields.ThreadId.{ThreadId}
use Rattle.perf_processes.specs.declared.change.Change.{Change}
use Rattle.perf_processes.specs.declared.change.Change.TheVariants.{Mapped, Named, Executed, Started, Ended}
use Rattle.perf_processes.specs.declared.change.MappedFile.{MappedFile}
use Rattle.perf_processes.specs.declared.change.ThreadName.{ThreadName}
use Rattle.perf_processes.specs.Changes.{contains, is_of, is_of_thread}

-- What all processes have mapped, the latest last, and their threads.
pub record ProcessState : Type 0 where
  pub mappings : List MappedFile
  pub threads : List ThreadName

-- ---- mappings

-- One mapping has all addresses of another of the same process.
abbrev pub covers : MappedFile → MappedFile → Bool
covers mapped other =
    (other.pid == mapped.pid) && nat_le mapped.address other.address && nat_le (other.address + other.size) (mapped.address + mapped.size)

-- A mapping isn't covered by another.
abbrev pub is_kept_by : MappedFile → MappedFile → Bool
is_kept_by mapped other = not (covers mapped other)

-- A mapping is a process's.
abbrev pub is_mapped_by : ℕ → MappedFile → Bool
is_mapped_by pid mapped = mapped.pid == pid

-- It is another's.
abbrev pub maps_other : ℕ → MappedFile → Bool
maps_other pid mapped = not (mapped.pid == pid)

-- The same mapping of another process.
abbrev pub copied_to : ℕ → MappedFile → MappedFile
copied_to pid mapped =
    record { pid = pid; address = mapped.address; size = mapped.size; offset = mapped.offset; file = mapped.file }

-- The last mapping of a process that has an address: a later one takes away what it has of earlier ones.
unfoldable pub mapping_at : ℕ → ℕ → List MappedFile → Option MappedFile
mapping_at pid address mappings = last_of (filter (contains pid address) mappings)

-- ---- threads

-- A name isn't of a process.
abbrev pub is_not_of : ℕ → ThreadName → Bool
is_not_of pid named = not (is_of pid named)

-- A name isn't of a thread.
abbrev pub is_not_of_thread : ThreadId → ThreadName → Bool
is_not_of_thread thread named = not (is_of_thread thread named)

-- There is a thread of a process.
abbrev pub has_process : ℕ → List ThreadName → Bool
has_process pid threads = list_any (is_of pid) threads

-- What a name says, if there is one.
abbrev pub named_as : Option ThreadName → Option ℕ
named_as (Some named) = named.name
named_as None = None

-- What a thread is called.
abbrev pub name_of : ThreadId → List ThreadName → Option ℕ
name_of thread threads = named_as (find (is_of_thread thread) threads)

-- Threads, of which one is called so.
abbrev pub with_name : ThreadName → List ThreadName → List ThreadName
with_name named threads = filter (is_not_of_thread named.thread) threads ++ named ∷ []

-- ---- changes

-- The thread that a task is, and the one that started it.
abbrev pub task_thread : Task → ThreadId
task_thread task = record { pid = task.pid; tid = task.tid }

abbrev pub parent_thread : Task → ThreadId
parent_thread task = record { pid = task.parent_pid; tid = task.parent_tid }

-- A thread that starts is called as the one that started it.
abbrev pub started_name : Task → List ThreadName → ThreadName
started_name task threads = record { thread = task_thread task; name = name_of (parent_thread task) threads }

-- A thread of a process that was there.
abbrev pub start_thread : Task → ProcessState → ProcessState
start_thread task state =
    record { mappings = state.mappings; threads = with_name (started_name task state.threads) state.threads }

-- A new process: it has mapped what its parent has, and nothing of an earlier process of its number.
abbrev pub start_process : Task → ProcessState → ProcessState
start_process task state =
    let others = filter (maps_other task.pid) state.mappings in
    record {
      mappings = others ++ map (copied_to task.pid) (filter (is_mapped_by task.parent_pid) others);
      threads = filter (is_not_of task.pid) state.threads ++ started_name task state.threads ∷ [];
    }

-- What a process has mapped goes once its last thread has ended.
abbrev pub end_thread : Task → ProcessState → ProcessState
end_thread task state =
    let threads = filter (is_not_of_thread (task_thread task)) state.threads in
    record {
      mappings = if has_process task.pid threads then state.mappings else filter (maps_other task.pid) state.mappings;
      threads = threads;
    }

-- What a change leaves.
unfoldable pub after_change : Change → ProcessState → ProcessState
after_change (Mapped mapped) state =
    record { mappings = filter (is_kept_by mapped) state.mappings ++ mapped ∷ []; threads = state.threads }
after_change (Named named) state = record { mappings = state.mappings; threads = with_name named state.threads }
after_change (Executed named) state =
    record { mappings = filter (maps_other named.thread.pid) state.mappings; threads = with_name named state.threads }
after_change (Started task) state = if task.pid == task.parent_pid then start_thread task state else start_process task state
after_change (Ended task) state = end_thread task state

-- Before the first change there is no process.
abbrev pub no_processes : ProcessState
no_processes = record { mappings = []; threads = [] }

-- The processes after some changes, the latest first.
unfoldable pub processes_after : List Change → ProcessState
processes_after [] = no_processes
processes_after (change ∷ earlier) = after_change change (processes_after earlier)
