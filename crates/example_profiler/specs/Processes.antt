-- The processes of a profiler, which are unwinders of its session, with their modules.
use Rattle.std.specs.Prelude.{◌≡◌, ◌≢◌, List, [], ◌∷◌, Option, Some, None, option_map, is_some, true}
use Rattle.framehop_unwinder.specs.ByNumber.{held}
use Rattle.framehop_unwinder.specs.IdViews.{unwinder_number}
use Rattle.framehop_unwinder.specs.Modules.{Loaded}
use Rattle.framehop_unwinder.specs.State.{SessionState}
use Rattle.framehop_unwinder.specs.declared.ids.UnwinderId.{UnwinderId}

-- the modules of a process, and nothing if it isn't followed
abbrev pub modules_of : {Data Rule : Type 0} → SessionState Data Rule → UnwinderId → Option (List (Loaded Data))
modules_of session process = option_map (λ loads. loads.modules) (held session.unwinders (unwinder_number process))

-- no process is followed
abbrev pub FollowsNone : {Data Rule : Type 0} → SessionState Data Rule → Type 0
FollowsNone session = (process : UnwinderId) → modules_of session process ≡ None

-- each process is followed as it was, with the same modules
abbrev pub KeepsAll : {Data Rule : Type 0} → SessionState Data Rule → SessionState Data Rule → Type 0
KeepsAll old new = (process : UnwinderId) → modules_of new process ≡ modules_of old process

-- the same of all processes but one
abbrev pub KeepsOthers : {Data Rule : Type 0} → UnwinderId → SessionState Data Rule → SessionState Data Rule → Type 0
KeepsOthers process old new =
    (other : UnwinderId) → unwinder_number other ≢ unwinder_number process → modules_of new other ≡ modules_of old other

-- A process that wasn't followed is, with a module.
pub record Starts {Data Rule : Type 0} (process : UnwinderId) (module_ : Loaded Data) (old new : SessionState Data Rule) : Type 0 where
  pub fresh : modules_of old process ≡ None
  pub modules : modules_of new process ≡ Some (module_ ∷ [])
  pub others : KeepsOthers process old new

-- A process that was followed isn't.
pub record Ends {Data Rule : Type 0} (process : UnwinderId) (old new : SessionState Data Rule) : Type 0 where
  pub followed : is_some (modules_of old process) ≡ true
  pub gone : modules_of new process ≡ None
  pub others : KeepsOthers process old new
