-- Unwinders and caches under one counter.
use Rattle.std.specs.Prelude.{ℕ, ◌≡◌, ◌<◌, ◌+◌, List, [], ◌∷◌, ◌++◌, map, Bool, Option, Some, None, option_map, unwrap_or, slice_set}
use Rattle.framehop_rules.specs.Slots.{KeptRule, Kept, new_kept}
use Rattle.framehop_unwinder.specs.Attempt.{Meanings}
use Rattle.framehop_unwinder.specs.ByNumber.{AllHeld, held, marks}
use Rattle.framehop_unwinder.specs.Frames.{Frame}
use Rattle.framehop_unwinder.specs.History.{KeyHistory, HaveHistories, histories_after}
use Rattle.framehop_unwinder.specs.Modules.{Loaded, Loads, AreOneBook, without_loaded}
use Rattle.framehop_unwinder.specs.RulesKept.{Fits, KeysBelow, Sets, rule_kept, key_for}
use Rattle.framehop_unwinder.specs.Walk.{WalkPosition, Starts, At, Over}

-- The unwinders by their numbers with their modules and generations, the next generation, and what is in each cache by its number. An
-- unwinder and a cache have the number of those that were made before. Nothing is under the number of one that was let go.
pub record SessionState (Data Rule : Type 0) : Type 0 where
  pub unwinders : List (Option (Loads (Loaded Data)))
  pub next : ℕ
  pub caches : List (Option (Kept Rule))

-- nothing, and the first generation
abbrev pub empty_state : {Data Rule : Type 0} → ℕ → SessionState Data Rule
empty_state next = record { unwinders = []; next = next; caches = [] }

-- the unwinder under a number
abbrev pub unwinder_at : {Data : Type 0} → List (Option (Loads (Loaded Data))) → ℕ → Loads (Loaded Data)
unwinder_at unwinders i = unwrap_or (held unwinders i) (record { modules = []; generation = 0 })

-- the modules of an unwinder of a session
abbrev pub modules_at : {Data Rule : Type 0} → SessionState Data Rule → ℕ → List (Loaded Data)
modules_at session unwinder = (unwinder_at session.unwinders unwinder).modules

-- the cache under a number
abbrev pub cache_at : {Rule : Type 0} → List (Option (Kept Rule)) → ℕ → Kept Rule
cache_at caches i = unwrap_or (held caches i) (new_kept 509)

-- a session with one more cache, without a rule, of so many slots
abbrev pub with_cache : {Data Rule : Type 0} → SessionState Data Rule → ℕ → SessionState Data Rule
with_cache session slots = record session { caches = session.caches ++ Some (new_kept slots) ∷ [] }

-- modules that a generation tells apart
abbrev pub loads_with : {Data : Type 0} → List (Loaded Data) → ℕ → Loads (Loaded Data)
loads_with modules generation = record { modules = modules; generation = generation }

-- a session in which an unwinder was given these modules, which takes a generation
abbrev pub with_modules : {Data Rule : Type 0} → SessionState Data Rule → ℕ → List (Loaded Data) → SessionState Data Rule
with_modules session unwinder modules = record session {
  unwinders = slice_set session.unwinders unwinder (Some (loads_with modules session.next));
  next = session.next + 1;
}

-- a session with one more unwinder, without a module, which takes a generation
abbrev pub with_unwinder : {Data Rule : Type 0} → SessionState Data Rule → SessionState Data Rule
with_unwinder session = record session {
  unwinders = session.unwinders ++ Some (loads_with [] session.next) ∷ [];
  next = session.next + 1;
}

-- a session with one more unwinder, which has the modules and the generation of another
abbrev pub with_clone : {Data Rule : Type 0} → SessionState Data Rule → ℕ → SessionState Data Rule
with_clone session unwinder = record session {
  unwinders = session.unwinders ++ Some (unwinder_at session.unwinders unwinder) ∷ [];
}

-- a session in which an unwinder has no more the last of its modules that start at an address
abbrev pub with_unloaded : {Data Rule : Type 0} → SessionState Data Rule → ℕ → ℕ → SessionState Data Rule
with_unloaded session unwinder start =
    with_modules session unwinder (without_loaded start (modules_at session unwinder))

-- a session that has let an unwinder go
abbrev pub without_unwinder : {Data Rule : Type 0} → SessionState Data Rule → ℕ → SessionState Data Rule
without_unwinder session unwinder = record session { unwinders = slice_set session.unwinders unwinder None }

-- a session that has let a cache go
abbrev pub without_cache : {Data Rule : Type 0} → SessionState Data Rule → ℕ → SessionState Data Rule
without_cache session cache = record session { caches = slice_set session.caches cache None }

-- the histories of caches after a step of an unwinder from a frame through one of them
abbrev pub histories_after_step : {Data Rule Registers : Type 0} → Meanings Data Rule Registers → Bool → Frame
    → Loads (Loaded Data) → ℕ → List (Option KeyHistory) → List (Option KeyHistory)
histories_after_step m wanted frame loads cache histories =
    histories_after wanted (rule_kept m loads.modules) (key_for frame loads.generation) cache histories

-- the histories of caches after a move of a walk: only from a frame a step is made
abbrev pub histories_after_move : {Data Rule Registers : Type 0} → Meanings Data Rule Registers → Bool → WalkPosition
    → Loads (Loaded Data) → ℕ → List (Option KeyHistory) → List (Option KeyHistory)
histories_after_move m wanted (Starts pc) loads cache histories = histories
histories_after_move m wanted (At frame) loads cache histories = histories_after_step m wanted frame loads cache histories
histories_after_move m wanted Over loads cache histories = histories

-- Only what is in the caches changes, and their histories change so.
pub record ChangesCaches {Data Rule : Type 0} (after : List (Option KeyHistory) → List (Option KeyHistory)) (old new : SessionState Data Rule) : Type 0 where
  pub unwinders : new.unwinders ≡ old.unwinders
  pub next : new.next ≡ old.next
  pub held : marks new.caches ≡ marks old.caches
  pub histories : (histories : List (Option KeyHistory)) → HaveHistories histories old.caches → HaveHistories (after histories) new.caches

-- a step of an unwinder from a frame, through a cache
abbrev pub StepsThrough : {Data Rule Registers : Type 0} → Meanings Data Rule Registers → Bool → Frame → (unwinder cache : ℕ)
    → SessionState Data Rule → SessionState Data Rule → Type 0
StepsThrough m wanted frame unwinder cache old new =
    ChangesCaches (histories_after_step m wanted frame (unwinder_at old.unwinders unwinder) cache) old new

-- a move of a walk from a position over the frames of an unwinder, through a cache
abbrev pub MovesThrough : {Data Rule Registers : Type 0} → Meanings Data Rule Registers → Bool → WalkPosition → (unwinder cache : ℕ)
    → SessionState Data Rule → SessionState Data Rule → Type 0
MovesThrough m wanted position unwinder cache old new =
    ChangesCaches (histories_after_move m wanted position (unwinder_at old.unwinders unwinder) cache) old new

-- the sets of each cache
abbrev pub sets_of_all : {Rule : Type 0} → List (Option (Kept Rule)) → List (Option (Sets Rule))
sets_of_all caches = map (option_map (λ cache. cache.sets)) caches

-- Why caches can be shared: generations and the keys that were kept are below the next number, unwinders of one generation
-- have the same modules, and each cache fits each unwinder. What was let go has no part in it.
pub record IsSound {Data Rule Registers : Type 0} (m : Meanings Data Rule Registers) (next : ℕ) (unwinders : List (Option (Loads (Loaded Data))))
    (caches : List (Option (List (List (Option (KeptRule Rule)))))) : Type 0 where
  pub older : AllHeld (λ unwinder. unwinder.generation < next) unwinders
  pub same : AllHeld (λ one. AllHeld (AreOneBook one) unwinders) unwinders
  pub below : AllHeld (KeysBelow next) caches
  pub fits : AllHeld (λ unwinder. AllHeld (Fits (rule_kept m unwinder.modules) unwinder.generation) caches) unwinders
