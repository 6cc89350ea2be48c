-- What is known of the records so far.
use Rattle.std.specs.Prelude.{ℕ, List}
use Rattle.perf_files.specs.declared.fields.ThreadId.{ThreadId}
use Rattle.perf_processes.specs.Processes.{ProcessState, no_processes}
use Rattle.fold_stacks.specs.Comms.{CommState, comm_of, no_comms}
use Rattle.fold_stacks.specs.CountedStacks.{CountedStacks, no_stacks}

-- Processes with what they have mapped, what their threads are called, and the stacks of samples.
pub record FoldingState : Type 0 where
  pub processes : ProcessState
  pub comms : CommState
  pub stacks : CountedStacks

-- before the first record
abbrev pub nothing_folded : FoldingState
nothing_folded = record { processes = no_processes; comms = no_comms; stacks = no_stacks }

-- what a thread is called, or was before it ended
abbrev pub called_in : FoldingState → ThreadId → List ℕ
called_in state = comm_of state.comms state.processes
