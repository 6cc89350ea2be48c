-- The state after a command: the modules and generations of unwinders, the counter, the keys that each cache kept with its counts, and
-- the walks.
use Rattle.std.specs.Prelude.{ℕ, ◌+◌, List, [], ◌∷◌, ◌++◌, Bool, true, false, Option, Some, None, option_map, unwrap_or, slice_set, if◌then◌else◌}
use Rattle.std.specs.List.{slice_get}
use Rattle.framehop_registers.specs.Callback.{Words}
use Rattle.framehop_unwinder.specs.Attempt.{Meanings}
use Rattle.framehop_unwinder.specs.Frames.{Frame}
use Rattle.framehop_unwinder.specs.History.{no_history}
use Rattle.framehop_unwinder.specs.Judge.{judge}
use Rattle.framehop_unwinder.specs.Modules.{Loaded, Loads, with_loaded, without_loaded, is_loaded_at}
use Rattle.framehop_unwinder.specs.Progress.{SessionModel, modules_in}
use Rattle.framehop_unwinder.specs.State.{unwinder_at, loads_with, histories_after_step, histories_after_move}
use Rattle.framehop_unwinder.specs.Walk.{Judgment, Walk, WalkPosition, Over, move}
use Rattle.framehop_unwinder.specs.WalkViews.{walk_from}
use Rattle.framehop_histories.specs.Commands.{Act, NewUnwinder, NewCache, Load, Unload, Clone, RemoveUnwinder, RemoveCache, Step, NewWalk, NextFrame, CommandState, Reply, Added, Removed, Unknown, Exhausted, Stepped, Moved}

-- these unwinders, one of which takes the counter's next number
abbrev pub with_number : {Data : Type 0} → List (Option (Loads (Loaded Data))) → SessionModel Data → SessionModel Data
with_number unwinders model = record model { unwinders = unwinders; next = model.next + 1 }

-- other modules in an unwinder, which takes the next number
abbrev pub model_with_modules : {Data : Type 0} → ℕ → List (Loaded Data) → SessionModel Data → SessionModel Data
model_with_modules unwinder modules model =
    with_number (slice_set model.unwinders unwinder (Some (loads_with modules model.next))) model

-- a step through a cache, which is out of memory or not
abbrev pub with_step : {Data Rule Registers : Type 0} → Meanings Data Rule Registers → Bool → ℕ → ℕ → Frame → SessionModel Data
    → SessionModel Data
with_step m wanted unwinder cache frame model =
    let loads = unwinder_at model.unwinders unwinder in
    record model { histories = histories_after_step m wanted frame loads cache model.histories }

-- a move of a walk from a position through a cache, which is out of memory or not
abbrev pub with_move : {Data Rule Registers : Type 0} → Meanings Data Rule Registers → Bool → ℕ → ℕ → WalkPosition → SessionModel Data
    → SessionModel Data
with_move m wanted unwinder cache place model =
    let loads = unwinder_at model.unwinders unwinder in
    record model { histories = histories_after_move m wanted place loads cache model.histories }

-- the position of a walk of a list
abbrev pub walk_place : {Registers : Type 0} → List (Walk Registers) → ℕ → WalkPosition
walk_place walks walk = unwrap_or (option_map (λ there. there.position) (slice_get walks walk)) Over

-- the session after a command that is carried out
abbrev pub model_after : {Data Rule Registers : Type 0} → Meanings Data Rule Registers → Act Data Registers → List (Walk Registers)
    → SessionModel Data → SessionModel Data
model_after m NewUnwinder walks model = with_number (model.unwinders ++ Some (loads_with [] model.next) ∷ []) model
model_after m (NewCache slots) walks model = record model { histories = model.histories ++ Some (no_history slots) ∷ [] }
model_after m (Load unwinder module_) walks model =
    model_with_modules unwinder (with_loaded module_ (modules_in unwinder model)) model
model_after m (Unload unwinder start) walks model =
    if is_loaded_at start (modules_in unwinder model)
    then model_with_modules unwinder (without_loaded start (modules_in unwinder model)) model else model
model_after m (Clone unwinder) walks model =
    record model { unwinders = model.unwinders ++ Some (unwinder_at model.unwinders unwinder) ∷ [] }
model_after m (RemoveUnwinder unwinder) walks model = record model { unwinders = slice_set model.unwinders unwinder None }
model_after m (RemoveCache cache) walks model = record model { histories = slice_set model.histories cache None }
model_after m (Step unwinder cache frame registers words) walks model = with_step m false unwinder cache frame model
model_after m (NewWalk pc registers) walks model = model
model_after m (NextFrame unwinder cache walk words) walks model =
    with_move m false unwinder cache (walk_place walks walk) model

-- the session after a command that is out of memory: nothing is done, but a step's look-up is counted
abbrev pub model_refused : {Data Rule Registers : Type 0} → Meanings Data Rule Registers → Act Data Registers → List (Walk Registers)
    → SessionModel Data → SessionModel Data
model_refused m NewUnwinder walks model = model
model_refused m (NewCache slots) walks model = model
model_refused m (Load unwinder module_) walks model = model
model_refused m (Unload unwinder start) walks model = model
model_refused m (Clone unwinder) walks model = model
model_refused m (RemoveUnwinder unwinder) walks model = model
model_refused m (RemoveCache cache) walks model = model
model_refused m (Step unwinder cache frame registers words) walks model = with_step m true unwinder cache frame model
model_refused m (NewWalk pc registers) walks model = model
model_refused m (NextFrame unwinder cache walk words) walks model =
    with_move m true unwinder cache (walk_place walks walk) model

-- walks, one of which has made a move
abbrev pub with_moved : {Registers : Type 0} → Judgment Registers → Words → ℕ → List (Walk Registers) → List (Walk Registers)
with_moved judgment words walk walks =
    unwrap_or (option_map (λ there. slice_set walks walk (move judgment words there).walk) (slice_get walks walk)) walks

-- the walks after a command that is carried out
abbrev pub walks_after : {Data Rule Registers : Type 0} → Meanings Data Rule Registers → Act Data Registers → SessionModel Data
    → List (Walk Registers) → List (Walk Registers)
walks_after m NewUnwinder model walks = walks
walks_after m (NewCache slots) model walks = walks
walks_after m (Load unwinder module_) model walks = walks
walks_after m (Unload unwinder start) model walks = walks
walks_after m (Clone unwinder) model walks = walks
walks_after m (RemoveUnwinder unwinder) model walks = walks
walks_after m (RemoveCache cache) model walks = walks
walks_after m (Step unwinder cache frame registers words) model walks = walks
walks_after m (NewWalk pc registers) model walks = walks ++ walk_from pc registers ∷ []
walks_after m (NextFrame unwinder cache walk words) model walks = with_moved (judge m (modules_in unwinder model)) words walk walks

-- the state after a command that is carried out
abbrev pub state_done : {Data Rule Registers : Type 0} → Meanings Data Rule Registers → Act Data Registers → CommandState Data Registers
    → CommandState Data Registers
state_done m act state = record {
  model = model_after m act state.walks state.model;
  walks = walks_after m act state.model state.walks;
}

-- The state after a command with this reply: as before, if what it names isn't there or no number is left. None is that it is out of
-- memory.
abbrev pub state_after : {Data Rule Registers : Type 0} → Meanings Data Rule Registers → Act Data Registers → CommandState Data Registers
    → Option (Reply Registers) → CommandState Data Registers
state_after m act state None = record { model = model_refused m act state.walks state.model; walks = state.walks }
state_after m act state (Some Added) = state_done m act state
state_after m act state (Some Removed) = state_done m act state
state_after m act state (Some Unknown) = state
state_after m act state (Some Exhausted) = state
state_after m act state (Some (Stepped answer registers)) = state_done m act state
state_after m act state (Some (Moved answer registers)) = state_done m act state
