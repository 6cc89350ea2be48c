-- How far commands have brought a session. There is no slot and no rule of a cache in it, but the keys that were kept.
use Rattle.std.specs.Prelude.{ℕ, ◌≡◌, List, Option}
use Rattle.framehop_unwinder.specs.History.{KeyHistory, HaveHistories}
use Rattle.framehop_unwinder.specs.Modules.{Loaded, Loads}
use Rattle.framehop_unwinder.specs.State.{SessionState, unwinder_at}

-- How far commands have come: the unwinders by their numbers with their modules and generations, the counter's next number, and for
-- each cache by its number the keys that were kept in it, and its counts. Nothing is under a number whose unwinder or cache was let go.
pub record SessionModel (Data : Type 0) : Type 0 where
  pub unwinders : List (Option (Loads (Loaded Data)))
  pub next : ℕ
  pub histories : List (Option KeyHistory)

-- A session that is so far: its unwinders and its counter, and caches that these histories have made.
pub record IsAt {Data Rule : Type 0} (progress : SessionModel Data) (state : SessionState Data Rule) : Type 0 where
  pub unwinders : state.unwinders ≡ progress.unwinders
  pub next : state.next ≡ progress.next
  pub histories : HaveHistories progress.histories state.caches

-- the modules of an unwinder
abbrev pub modules_in : {Data : Type 0} → ℕ → SessionModel Data → List (Loaded Data)
modules_in unwinder progress = (unwinder_at progress.unwinders unwinder).modules
