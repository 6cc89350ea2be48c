-- What records say that changes of processes and their threads (Linux, include/uapi/linux/perf_event.h, PERF_RECORD_MMAP,
-- PERF_RECORD_COMM, PERF_RECORD_FORK, PERF_RECORD_EXIT).
use Rattle.std.specs.Prelude.{ℕ, ◌+◌, ◌==◌, ◌&&◌, nat_le, nat_lt, Bool}
use Rattle.perf_files.specs.declared.fields.ThreadId.{ThreadId}
use Rattle.perf_processes.specs.declared.change.MappedFile.{MappedFile}
use Rattle.perf_processes.specs.declared.change.ThreadName.{ThreadName}

-- A mapped file is a process's and has an address.
abbrev pub contains : ℕ → ℕ → MappedFile → Bool
contains pid address mapped =
    (mapped.pid == pid) && nat_le mapped.address address && nat_lt address (mapped.address + mapped.size)

-- A name is of a process.
abbrev pub is_of : ℕ → ThreadName → Bool
is_of pid named = named.thread.pid == pid

-- A name is of a thread.
abbrev pub is_of_thread : ThreadId → ThreadName → Bool
is_of_thread thread named = (named.thread.pid == thread.pid) && (named.thread.tid == thread.tid)
