-- What a process has mapped at an address, by the changes alone: the latest one that concerns it says so.
use Rattle.std.specs.Prelude.{◌≡◌, ℕ, ◌==◌, ◌&&◌, not, if◌then◌else◌, Bool, List, [], ◌∷◌, Option, Some, None}
use Rattle.std.specs.Option.{option_map}
use Rattle.perf_files.specs.declared.command.Task.{Task}
use Rattle.perf_processes.specs.declared.change.Change.{Change}
use Rattle.perf_processes.specs.declared.change.Change.TheVariants.{Mapped, Named, Executed, Started, Ended}
use Rattle.perf_processes.specs.declared.change.MappedFile.{MappedFile}
use Rattle.perf_processes.specs.Changes.{contains}
use Rattle.perf_processes.specs.Processes.{copied_to, has_process, mapping_at, processes_after}

-- A task is the start of a process, and not of a thread in one.
abbrev pub starts_process : ℕ → Task → Bool
starts_process pid task = (task.pid == pid) && not (task.pid == task.parent_pid)

-- What a process has mapped at an address, the latest change first: what a mapping of it with the address says, nothing after its
-- execve or its last thread's end, what its parent had when it started, and else what was so before.
unfoldable pub mapped_by : List Change → ℕ → ℕ → Option MappedFile
mapped_by [] pid address = None
mapped_by (Mapped mapped ∷ earlier) pid address = if contains pid address mapped then Some mapped else mapped_by earlier pid address
mapped_by (Named named ∷ earlier) pid address = mapped_by earlier pid address
mapped_by (Executed named ∷ earlier) pid address = if named.thread.pid == pid then None else mapped_by earlier pid address
mapped_by (Started task ∷ earlier) pid address =
    if starts_process pid task then option_map (copied_to pid) (mapped_by earlier task.parent_pid address) else mapped_by earlier pid address
mapped_by (Ended task ∷ earlier) pid address =
    if (task.pid == pid) && not (has_process task.pid (processes_after (Ended task ∷ earlier)).threads) then None else mapped_by earlier pid address

-- What the processes after some changes have mapped is that.
abbrev pub MappedByChanges : Type 0
MappedByChanges = (changes : List Change) (pid address : ℕ)
    → mapping_at pid address (processes_after changes).mappings ≡ mapped_by changes pid address
