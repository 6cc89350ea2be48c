-- Whose modules a change concerns.
use Rattle.std.specs.Prelude.{ℕ, ◌==◌, if◌then◌else◌, Bool, true, false, Option, Some, None}
use Rattle.perf_files.specs.declared.command.Task.{Task}
use Rattle.perf_processes.specs.declared.change.Change.{Change}
use Rattle.perf_processes.specs.declared.change.Change.TheVariants.{Mapped, Named, Executed, Started, Ended}

-- The process whose mappings a change concerns, and whether all that it had goes: at the start of a process and at the end of its first
-- thread its modules are taken again.
abbrev pub concerned : Change → Option (ℕ × Bool)
concerned (Mapped mapped) = Some (mapped.pid, false)
concerned (Named named) = None
concerned (Executed named) = Some (named.thread.pid, true)
concerned (Started task) = if task.pid == task.parent_pid then None else Some (task.pid, true)
concerned (Ended task) = if task.pid == task.tid then Some (task.pid, true) else None
