-- What contracts see of the session of a core's modules.
use Rattle.std.specs.Prelude.{◌≡◌, List, true}
use Rattle.core_files.specs.MemoryViews.{word_of}
use Rattle.core_files.specs.declared.memory.Memory.{Memory}
use Rattle.framehop_loads.specs.UnwindData.{UnwindData}
use Rattle.framehop_registers.specs.Callback.{Words}
use Rattle.framehop_unwinder.specs.ByNumber.{is_held, marks}
use Rattle.framehop_unwinder.specs.Modules.{Loaded}
use Rattle.framehop_unwinder.specs.State.{SessionState, modules_at}
use Rattle.framehop_unwinder.specs.WalkViews.{walk_of}
use Rattle.framehop_unwinder.specs.declared.iterator.StackWalk.{StackWalk}
use Rattle.backtrace_walks.specs.StackMeanings.{StackMeanings, advance_by}
use Rattle.backtrace_walks.specs.Walks.{Advance}

-- A session has its first unwinder and its first cache.
pub record IsReady {Data Rule : Type 0} (session : SessionState Data Rule) : Type 0 where
  pub unwinder : is_held session.unwinders 0 ≡ true
  pub cache : is_held (marks session.caches) 0 ≡ true

-- Only what is in a session's caches changed.
pub record KeepsModules {Data Rule : Type 0} (old new : SessionState Data Rule) : Type 0 where
  pub unwinders : new.unwinders ≡ old.unwinders
  pub caches : marks new.caches ≡ marks old.caches

-- A session has its first unwinder and its first cache, and these modules in the unwinder.
pub record HasModules {Data Rule : Type 0} (loaded : List (Loaded Data)) (session : SessionState Data Rule) : Type 0 where
  pub ready : IsReady session
  pub modules : modules_at session 0 ≡ loaded

-- A move of a walk over a stack by the modules of a session's first unwinder, where a signal's frame is read from a memory.
abbrev pub advance_in : {Rule Registers : Type 0} → StackMeanings Rule Registers → SessionState UnwindData Rule → Memory → StackWalk Registers
    → Words → Advance Registers
advance_in stacks session memory walk words = advance_by stacks (modules_at session 0) (word_of memory) words (walk_of walk)
