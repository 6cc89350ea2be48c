-- Ids as contracts see them, and what they name.
use Rattle.std.specs.Prelude.{ℕ, ◌≡◌, ◌&&◌, List, Bool, false, Result, IsErr, OnErr}
use Rattle.framehop_registers.specs.declared.error.Error.{Error}
use Rattle.framehop_unwinder.specs.Attempt.{Meanings}
use Rattle.framehop_unwinder.specs.ByNumber.{is_held}
use Rattle.framehop_unwinder.specs.Frames.{Frame}
use Rattle.framehop_unwinder.specs.Modules.{Loaded, is_loaded_at, with_loaded}
use Rattle.framehop_unwinder.specs.State.{SessionState, MovesThrough, StepsThrough, modules_at, with_modules, with_unloaded}
use Rattle.framehop_unwinder.specs.Trials.{wants_memory}
use Rattle.framehop_unwinder.specs.Walk.{WalkPosition}
use Rattle.framehop_unwinder.specs.declared.ids.CacheId.{CacheId}
use Rattle.framehop_unwinder.specs.declared.ids.UnwinderId.{UnwinderId}

-- the number that an unwinder was given: how many were made before it
abbrev pub unwinder_number : UnwinderId → ℕ
unwinder_number id = id.place.number

-- the number that a cache was given
abbrev pub cache_number : CacheId → ℕ
cache_number id = id.place.number

-- the session has the unwinder
abbrev pub has_unwinder : {Data Rule : Type 0} → SessionState Data Rule → UnwinderId → Bool
has_unwinder session unwinder = is_held session.unwinders (unwinder_number unwinder)

-- the session has the cache
abbrev pub has_cache : {Data Rule : Type 0} → SessionState Data Rule → CacheId → Bool
has_cache session cache = is_held session.caches (cache_number cache)

-- the session has the unwinder and the cache
abbrev pub has_both : {Data Rule : Type 0} → SessionState Data Rule → UnwinderId → CacheId → Bool
has_both session unwinder cache = has_unwinder session unwinder && has_cache session cache

-- the modules of the unwinder
abbrev pub modules_by : {Data Rule : Type 0} → SessionState Data Rule → UnwinderId → List (Loaded Data)
modules_by session unwinder = modules_at session (unwinder_number unwinder)

-- one of the modules of the unwinder starts at an address
abbrev pub has_module_at : {Data Rule : Type 0} → SessionState Data Rule → UnwinderId → ℕ → Bool
has_module_at session unwinder start = is_loaded_at start (modules_by session unwinder)

-- the session with a module loaded in the unwinder
abbrev pub with_module_in : {Data Rule : Type 0} → SessionState Data Rule → UnwinderId → Loaded Data → SessionState Data Rule
with_module_in session unwinder module_ =
    with_modules session (unwinder_number unwinder) (with_loaded module_ (modules_by session unwinder))

-- the session without the last of the modules of the unwinder that start at an address
abbrev pub without_module_in : {Data Rule : Type 0} → SessionState Data Rule → UnwinderId → ℕ → SessionState Data Rule
without_module_in session unwinder start = with_unloaded session (unwinder_number unwinder) start

-- a step of the unwinder from a frame, through the cache
abbrev pub StepsBy : {A Data Rule Registers : Type 0} → Meanings Data Rule Registers → Result A Error → Frame → UnwinderId → CacheId
    → SessionState Data Rule → SessionState Data Rule → Type 0
StepsBy m answer frame unwinder cache old new =
    StepsThrough m (wants_memory answer) frame (unwinder_number unwinder) (cache_number cache) old new

-- a move of a walk from a position over the frames of the unwinder, through the cache
abbrev pub MovesBy : {A Data Rule Registers : Type 0} → Meanings Data Rule Registers → Result A Error → WalkPosition → UnwinderId → CacheId
    → SessionState Data Rule → SessionState Data Rule → Type 0
MovesBy m answer position unwinder cache old new =
    MovesThrough m (wants_memory answer) position (unwinder_number unwinder) (cache_number cache) old new

-- A call that names what may have been let go fails if and only if it was, or was never made; and changes nothing then.
pub record FindsHeld {X A E : Type 0} (is_held : Bool) (result : Result A E) (old new : X) : Type 0 where
  pub stale : is_held ≡ false → IsErr result
  pub only : OnErr result (is_held ≡ false)
  pub same : OnErr result (new ≡ old)
