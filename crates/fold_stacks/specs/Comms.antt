-- What threads are called.
use Rattle.std.specs.Prelude.{◌≡◌, ℕ, ◌==◌, ◌&&◌, if◌then◌else◌, Bool, List, [], Option, Some, None, option_map}
use Rattle.std.specs.Option.{option_or}
use Rattle.folded_stacks.specs.FrameNames.{name_at}
use Rattle.perf_files.specs.declared.fields.ThreadId.{ThreadId}
use Rattle.perf_processes.specs.Processes.{ProcessState, name_of, task_thread}
use Rattle.perf_processes.specs.declared.change.Change.{Change}
use Rattle.perf_processes.specs.declared.change.Change.TheVariants.{Ended}
use Rattle.perf_processes.specs.declared.change.ThreadName.{ThreadName}
use Rattle.fold_stacks.specs.FrameTexts.{comm_text}

-- The names of threads, each with a number, and the numbers of what threads were called that ended.
pub record CommState : Type 0 where
  pub names : List (List ℕ)
  pub ended : List ThreadName

-- no names
abbrev pub no_comms : CommState
no_comms = record { names = []; ended = [] }

-- the number of what a thread is called, or was before it ended
abbrev pub comm_number : CommState → ProcessState → ThreadId → Option ℕ
comm_number comms processes thread = option_or (name_of thread processes.threads) (name_of thread comms.ended)

-- its name, if it has one
abbrev pub comm_known : CommState → ProcessState → ThreadId → Option (List ℕ)
comm_known comms processes thread = option_map (name_at comms.names) (comm_number comms processes thread)

-- what a thread is called, or was before it ended
abbrev pub comm_of : CommState → ProcessState → ThreadId → List ℕ
comm_of comms processes thread = comm_text (comm_known comms processes thread) thread.pid

-- a thread is another
abbrev pub is_thread : ThreadId → ThreadId → Bool
is_thread thread other = (thread.pid == other.pid) && (thread.tid == other.tid)

-- what a thread was called, if another has ended that was called so
abbrev pub ended_with : {A : Type 0} → ThreadId → Option A → (ThreadId → Option A) → ThreadId → Option A
ended_with thread (Some name) ended other = if is_thread thread other then Some name else ended other
ended_with thread None ended other = ended other

-- The same for each thread, by their numbers.
abbrev pub EndsThread : ThreadId → Option ℕ → List ThreadName → List ThreadName → Type 0
EndsThread thread name old new = (other : ThreadId) → name_of other new ≡ ended_with thread name (λ ended. name_of ended old) other

-- What threads were called is kept by a change of these processes: of a thread that ends.
abbrev pub KeepsEnded : Change → ProcessState → List ThreadName → List ThreadName → Type 0
KeepsEnded (Ended task) processes old new = EndsThread (task_thread task) (name_of (task_thread task) processes.threads) old new
KeepsEnded _ processes old new = new ≡ old
