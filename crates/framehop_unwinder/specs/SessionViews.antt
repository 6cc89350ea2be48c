-- Sessions as contracts see them.
use Rattle.std.specs.Prelude.{ℕ, List, Option, map, option_map}
use Rattle.framehop_rules.specs.Slots.{Kept}
use Rattle.framehop_unwinder.specs.Attempt.{Meanings}
use Rattle.framehop_unwinder.specs.CacheViews.{rules_of}
use Rattle.framehop_unwinder.specs.Modules.{Loaded, Loads}
use Rattle.framehop_unwinder.specs.NumberedViews.{IsNumbered, by_number}
use Rattle.framehop_unwinder.specs.State.{IsSound, sets_of_all}
use Rattle.framehop_unwinder.specs.declared.cache.Cache.{Cache}
use Rattle.framehop_unwinder.specs.declared.numbered.Numbered.{Numbered}

-- what is in each cache, by their numbers
abbrev pub caches_by_number : {Rule Context Registers : Type 0} → Numbered (Cache Rule Context Registers) → List (Option (Kept Rule))
caches_by_number caches = map (option_map rules_of) (by_number caches)

-- Slots with numbers of their own, of unwinders and of caches that can be shared.
pub record IsInOrder {Data Rule Context Registers : Type 0} (m : Meanings Data Rule Registers) (next : ℕ) (unwinders : Numbered (Loads (Loaded Data)))
    (caches : Numbered (Cache Rule Context Registers)) : Type 0 where
  pub unwinders_numbered : IsNumbered unwinders
  pub caches_numbered : IsNumbered caches
  pub sound : IsSound m next (by_number unwinders) (sets_of_all (caches_by_number caches))
