-- What laws say of the slots of a rule cache.
use Rattle.std.specs.Prelude.{ℕ, ◌≡◌, List, [], ◌∷◌, ◌++◌, map, Option, Some}
use Rattle.std.specs.List.{Contains}
use Rattle.framehop_rules.specs.LastKept.{HasLast, last_entries, last_keys}
use Rattle.framehop_rules.specs.Slots.{Key, KeptRule, Layout, finding_among, key_in, kept_under, with_kept, counts_after}
use Rattle.framehop_rules.specs.declared.rule_cache.CacheStats.{CacheStats}

-- The slots of a set.
abbrev pub SlotsOf : Type 0 → Type 0
SlotsOf Rule = List (Option (KeptRule Rule))

-- The slots of the sets of a cache.
abbrev pub SetsOf : Type 0 → Type 0
SetsOf Rule = List (List (Option (KeptRule Rule)))

-- If each set has the last of what was kept, it has so with one more that is kept.
abbrev pub KeepsLast : {Rule : Type 0} → Layout → List (KeptRule Rule) → SetsOf Rule → KeptRule Rule → Type 0
KeepsLast layout kept sets entry =
    HasLast layout kept sets → HasLast layout (kept ++ entry ∷ []) (with_kept layout sets entry.key entry.rule)

-- The last of the keys of what was kept are the keys of the last.
abbrev pub KeysAreLast : {Rule : Type 0} → Layout → List (KeptRule Rule) → ℕ → Type 0
KeysAreLast layout kept set =
    last_keys layout (map (λ entry. entry.key) kept) set ≡ map key_in (last_entries layout kept set)

-- The rule is kept in one of these slots, under the key.
abbrev pub IsKeptUnder : {Rule : Type 0} → Key → Rule → List (Option (KeptRule Rule)) → Type 0
IsKeptUnder key rule slots = Contains slots (Some (kept_under key rule))

-- By what is in the slots of two sets, a look-up counts the same.
abbrev pub CountAlike : {Rule : Type 0} → Key → (a b : List (Option (KeptRule Rule))) → CacheStats → Type 0
CountAlike key a b counts = counts_after (finding_among key a) counts ≡ counts_after (finding_among key b) counts

-- The slots of two sets have rules under the same keys.
abbrev pub HaveKeysAlike : {Rule : Type 0} → (a b : List (Option (KeptRule Rule))) → Type 0
HaveKeysAlike a b = map key_in a ≡ map key_in b
