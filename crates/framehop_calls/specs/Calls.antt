-- What calls do with a session: each answers a status, and changes nothing unless that is `ok`.
use Rattle.std.specs.Prelude.{ℕ, ◌≡◌, ◌≢◌, ◌-◌, ◌^◌, [], ◌∷◌, length, Bool, true, false, if◌then◌else◌}
use Rattle.framehop_rules.specs.declared.rule_cache.CacheStats.{CacheStats}
use Rattle.framehop_unwinder.specs.ByNumber.{is_held}
use Rattle.framehop_unwinder.specs.Modules.{Loaded, is_loaded_at, last_end, with_loaded}
use Rattle.framehop_unwinder.specs.State.{SessionState, cache_at, modules_at, with_cache, with_clone, with_modules, with_unloaded, with_unwinder, without_cache, without_unwinder}
use Rattle.framehop_calls.specs.Statuses.{ok, out_of_memory, generations_exhausted, no_unwinder, no_cache, is_among}

-- What a call changes becomes what it is to be, or stays.
pub record Changes {X : Type 0} (status : ℕ) (wanted old new : X) : Type 0 where
  pub done : status ≡ ok → new ≡ wanted
  pub refused : status ≢ ok → new ≡ old

-- A call that names what there may not be says so, and only then.
pub record Misses (reason : ℕ) (is_there : Bool) (status : ℕ) : Type 0 where
  pub told : is_there ≡ false → status ≡ reason
  pub only : status ≡ reason → is_there ≡ false

-- An unwinder without a module is made, under a number that is written.
pub record AddsUnwinder {Data Rule : Type 0} (status old_number new_number : ℕ) (old new : SessionState Data Rule) : Type 0 where
  pub session : Changes status (with_unwinder old) old new
  pub number : Changes status (length old.unwinders) old_number new_number
  pub exhausted : status ≡ generations_exhausted → old.next ≡ 2 ^ 64 - 1
  pub statuses : is_among status (ok ∷ out_of_memory ∷ generations_exhausted ∷ []) ≡ true

-- An unwinder with the modules of another is made, under a number that is written.
pub record ClonesUnwinder {Data Rule : Type 0} (status unwinder old_number new_number : ℕ) (old new : SessionState Data Rule) : Type 0 where
  pub session : Changes status (with_clone old unwinder) old new
  pub number : Changes status (length old.unwinders) old_number new_number
  pub missing : Misses no_unwinder (is_held old.unwinders unwinder) status
  pub statuses : is_among status (ok ∷ out_of_memory ∷ no_unwinder ∷ []) ≡ true

-- An unwinder is let go.
pub record RemovesUnwinder {Data Rule : Type 0} (status unwinder : ℕ) (old new : SessionState Data Rule) : Type 0 where
  pub session : Changes status (without_unwinder old unwinder) old new
  pub missing : Misses no_unwinder (is_held old.unwinders unwinder) status
  pub statuses : is_among status (ok ∷ no_unwinder ∷ []) ≡ true

-- A cache of so many slots is made, under a number that is written.
pub record AddsCache {Data Rule : Type 0} (status slots old_number new_number : ℕ) (old new : SessionState Data Rule) : Type 0 where
  pub session : Changes status (with_cache old slots) old new
  pub number : Changes status (length old.caches) old_number new_number
  pub statuses : is_among status (ok ∷ out_of_memory ∷ []) ≡ true

-- A cache is let go.
pub record RemovesCache {Data Rule : Type 0} (status cache : ℕ) (old new : SessionState Data Rule) : Type 0 where
  pub session : Changes status (without_cache old cache) old new
  pub missing : Misses no_cache (is_held old.caches cache) status
  pub statuses : is_among status (ok ∷ no_cache ∷ []) ≡ true

-- The counts of a cache are written.
pub record TellsCounts {Data Rule : Type 0} (status cache : ℕ) (old_counts new_counts : CacheStats) (old new : SessionState Data Rule) : Type 0 where
  pub session : new ≡ old
  pub counts : Changes status ((cache_at old.caches cache).counts) old_counts new_counts
  pub missing : Misses no_cache (is_held old.caches cache) status
  pub statuses : is_among status (ok ∷ no_cache ∷ []) ≡ true

-- A module is loaded in an unwinder.
pub record LoadsModule {Data Rule : Type 0} (status unwinder : ℕ) (module_ : Loaded Data) (old new : SessionState Data Rule) : Type 0 where
  pub session : Changes status (with_modules old unwinder (with_loaded module_ (modules_at old unwinder))) old new
  pub missing : Misses no_unwinder (is_held old.unwinders unwinder) status
  pub exhausted : status ≡ generations_exhausted → old.next ≡ 2 ^ 64 - 1
  pub statuses : is_among status (ok ∷ out_of_memory ∷ generations_exhausted ∷ no_unwinder ∷ []) ≡ true

-- the session without the last of an unwinder's modules that start at an address, if one does
abbrev pub after_unload : {Data Rule : Type 0} → ℕ → ℕ → SessionState Data Rule → SessionState Data Rule
after_unload unwinder start session =
    if is_loaded_at start (modules_at session unwinder) then with_unloaded session unwinder start else session

-- The last of an unwinder's modules that start at an address is unloaded, if one does.
pub record UnloadsModule {Data Rule : Type 0} (status unwinder start : ℕ) (old new : SessionState Data Rule) : Type 0 where
  pub session : Changes status (after_unload unwinder start old) old new
  pub missing : Misses no_unwinder (is_held old.unwinders unwinder) status
  pub exhausted : status ≡ generations_exhausted → old.next ≡ 2 ^ 64 - 1
  pub statuses : is_among status (ok ∷ generations_exhausted ∷ no_unwinder ∷ []) ≡ true

-- The end of an unwinder's last module is written, else 0.
pub record TellsLastEnd {Data Rule : Type 0} (status unwinder old_address new_address : ℕ) (old new : SessionState Data Rule) : Type 0 where
  pub session : new ≡ old
  pub address : Changes status (last_end (λ module_. module_.end) (modules_at old unwinder)) old_address new_address
  pub missing : Misses no_unwinder (is_held old.unwinders unwinder) status
  pub statuses : is_among status (ok ∷ no_unwinder ∷ []) ≡ true
