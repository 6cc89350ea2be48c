-- A cache by the list of all keys that were kept in it.
use Rattle.std.specs.Prelude.{ℕ, ◌≡◌, List, [], ◌∷◌, ◌++◌, length, map, Bool, Option, Some, None, option_map, unwrap_or, if◌then◌else◌}
use Rattle.std.specs.List.{range_with_len}
use Rattle.framehop_rules.specs.LastKept.{last_keys}
use Rattle.framehop_rules.specs.Occupancy.{rules_in, slots_in}
use Rattle.framehop_rules.specs.Slots.{Key, KeptRule, Kept, Layout, Finding, Hits, EmptySlot, OtherModules, OtherAddress, finding_among, found_by, key_in, layout_of, sets_in, set_of, slots_of, no_counts, counts_after}
use Rattle.framehop_rules.specs.declared.rule_cache.CacheOccupancy.{CacheOccupancy}
use Rattle.framehop_rules.specs.declared.rule_cache.CacheStats.{CacheStats}
use Rattle.framehop_unwinder.specs.ByNumber.{held, with_changed}
use Rattle.framehop_unwinder.specs.RulesKept.{sets_after}

-- a key in a slot, without its rule
abbrev pub bare_entry : Key → KeptRule (Unit {0})
bare_entry key = record { key = key; rule = tt }

-- slots with keys, without their rules
abbrev pub bare_slots : List (Option Key) → List (Option (KeptRule (Unit {0})))
bare_slots keys = map (option_map bare_entry) keys

-- what a look-up finds after these keys were kept: the last of the set decide
abbrev pub finding_after : Layout → List Key → Key → Finding (Unit {0})
finding_after layout keys key = finding_among key (bare_slots (last_keys layout keys (set_of layout key.address)))

-- the keys with one more, if there is a rule to keep
abbrev pub with_key : {Rule : Type 0} → List Key → Key → Option Rule → List Key
with_key keys key None = keys
with_key keys key (Some rule) = keys ++ key ∷ []

-- a look-up that found its rule keeps nothing
abbrev pub with_missed_key : {Rule : Type 0} → List Key → Key → Option Rule → Finding (Unit {0}) → List Key
with_missed_key keys key kept (Hits rule) = keys
with_missed_key keys key kept EmptySlot = with_key keys key kept
with_missed_key keys key kept OtherModules = with_key keys key kept
with_missed_key keys key kept OtherAddress = with_key keys key kept

-- the keys kept after a step under a key: one more if and only if the look-up missed and there is a rule to keep. Nothing is kept
-- if the step was out of memory
abbrev pub keys_after : {Rule : Type 0} → Bool → (Key → Option Rule) → Key → Layout → List Key → List Key
keys_after wanted kept key layout keys =
    if wanted then keys else with_missed_key keys key (kept key) (finding_after layout keys key)

-- Each set has the last of the keys that were kept in it.
pub record HasLastKeys {Rule : Type 0} (layout : Layout) (keys : List Key) (sets : List (List (Option (KeptRule Rule)))) : Type 0 where
  pub count : length sets ≡ sets_in layout
  pub each : (set : ℕ) → map key_in (slots_of layout sets set) ≡ last_keys layout keys set

-- if each set of a cache has the last of these keys, it has so after a step, of which a rule may be kept
abbrev pub KeepsLastKeys : {Rule : Type 0} → Key → List Key → Kept Rule → Type 0
KeepsLastKeys {Rule} key keys cache =
    (wanted : Bool) (kept : Key → Option Rule) → HasLastKeys cache.layout keys cache.sets
    → HasLastKeys cache.layout (keys_after wanted kept key cache.layout keys) (sets_after wanted kept key cache.layout cache.sets)

-- if each set of a cache has the last of these keys, they decide what a look-up is counted as
abbrev pub KeysDecideCounts : {Rule : Type 0} → Key → List Key → Kept Rule → Type 0
KeysDecideCounts key keys cache =
    (counts : CacheStats) → HasLastKeys cache.layout keys cache.sets
    → counts_after (found_by cache key) counts ≡ counts_after (finding_after cache.layout keys key) counts

-- The history of a cache: its layout, the keys that were kept in it so far, in their order, and its counts.
pub record KeyHistory : Type 0 where
  pub layout : Layout
  pub keys : List Key
  pub counts : CacheStats

-- in a cache of so many slots, nothing was kept and counted yet
abbrev pub no_history : ℕ → KeyHistory
no_history slots = record { layout = layout_of slots; keys = []; counts = no_counts }

-- the history under a number
abbrev pub history_at : List (Option KeyHistory) → ℕ → KeyHistory
history_at histories i = unwrap_or (held histories i) (no_history 509)

-- how many slots a cache with this history has, and in how many of them a rule is kept: each set has the last of its keys
abbrev pub occupancy_after : KeyHistory → CacheOccupancy
occupancy_after history = record {
  slot_count = slots_in history.layout;
  rule_count = rules_in (map (last_keys history.layout history.keys) (range_with_len 0 (sets_in history.layout)));
}

-- the history of a cache after a step under a key
abbrev pub history_after : {Rule : Type 0} → Bool → (Key → Option Rule) → Key → KeyHistory → KeyHistory
history_after wanted kept key history = record {
  layout = history.layout;
  keys = keys_after wanted kept key history.layout history.keys;
  counts = counts_after (finding_after history.layout history.keys key) history.counts;
}

-- the histories of caches after a step under a key through one of them
abbrev pub histories_after : {Rule : Type 0} → Bool → (Key → Option Rule) → Key → ℕ → List (Option KeyHistory) → List (Option KeyHistory)
histories_after wanted kept key cache histories = with_changed (history_after wanted kept key) histories cache

-- A cache that this history has made.
pub record HasHistory {Rule : Type 0} (history : KeyHistory) (cache : Kept Rule) : Type 0 where
  pub layout : cache.layout ≡ history.layout
  pub keys : HasLastKeys history.layout history.keys cache.sets
  pub counts : cache.counts ≡ history.counts

-- a cache that a history has made; or both were let go
abbrev pub HasHistoryIfHeld : {Rule : Type 0} → Option KeyHistory → Option (Kept Rule) → Type 0
HasHistoryIfHeld None None = Unit {0}
HasHistoryIfHeld None (Some cache) = ⊥
HasHistoryIfHeld (Some history) None = ⊥
HasHistoryIfHeld (Some history) (Some cache) = HasHistory history cache

-- caches that these histories have made, one each
abbrev pub HaveHistories : {Rule : Type 0} → List (Option KeyHistory) → List (Option (Kept Rule)) → Type 0
HaveHistories [] [] = Unit {0}
HaveHistories [] (cache ∷ caches) = ⊥
HaveHistories (history ∷ histories) [] = ⊥
HaveHistories (history ∷ histories) (cache ∷ caches) = HasHistoryIfHeld history cache × HaveHistories histories caches

-- beside caches that histories have made there is a new one, of so many slots
abbrev pub GainNewHistory : {Rule : Type 0} → ℕ → (old new : List (Option (Kept Rule))) → Type 0
GainNewHistory slots old new =
    (histories : List (Option KeyHistory)) → HaveHistories histories old → HaveHistories (histories ++ Some (no_history slots) ∷ []) new

-- what the histories of caches say of the counts of one
abbrev pub CountsByHistory : {Rule : Type 0} → CacheStats → List (Option (Kept Rule)) → ℕ → Type 0
CountsByHistory counts caches cache =
    (histories : List (Option KeyHistory)) → HaveHistories histories caches → counts ≡ (history_at histories cache).counts

-- what the histories of caches say of how many slots one has, and in how many of them a rule is kept
abbrev pub OccupiedByHistory : {Rule : Type 0} → CacheOccupancy → List (Option (Kept Rule)) → ℕ → Type 0
OccupiedByHistory occupancy caches cache =
    (histories : List (Option KeyHistory)) → HaveHistories histories caches → occupancy ≡ occupancy_after (history_at histories cache)
