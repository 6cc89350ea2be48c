-- The slots of a rule cache: how they are laid out, what is in each, what a look-up finds there, and what is counted.
use Rattle.std.specs.Prelude.{ℕ, ◌≡◌, ◌≤◌, ◌+◌, ◌^◌, ◌-◌, ◌/◌, ◌%◌, ◌⊎◌, min, Bool, ◌&&◌, ◌==◌, List, [], ◌∷◌, take, replicate, Option, Some, None, option_map, slice_set, if◌then◌else◌}
use Rattle.std.specs.Bool.{beq}
use Rattle.std.specs.List.{slice_index_or}
use Rattle.framehop_rules.specs.declared.rule_cache.CacheStats.{CacheStats}

-- What a rule is kept for: the address that was looked up, whether its frame is the first, and the generation of the
-- modules.
pub record Key : Type 0 where
  pub address : ℕ
  pub is_first : Bool
  pub generation : ℕ

-- A rule that was kept, and what for.
pub record KeptRule (Rule : Type 0) : Type 0 where
  pub key : Key
  pub rule : Rule

-- A rule that is kept under a key.
abbrev pub kept_under : {Rule : Type 0} → Key → Rule → KeptRule Rule
kept_under key rule = record { key = key; rule = rule }

-- How the slots of a cache are laid out: in sets, numbered up to the last, of so many ways each. As many neighbouring addresses as the
-- grain says have one set.
pub record Layout : Type 0 where
  pub last_set : ℕ
  pub ways : ℕ
  pub grain : ℕ

-- 509 slots, each of which is a set, as the original has them
abbrev pub single_slots : Layout
single_slots = record { last_set = 508; ways = 1; grain = 1 }

-- so many pairs of slots. The grain is an instruction of aarch64, so that no pair is left out there
abbrev pub pairs_of_slots : ℕ → Layout
pairs_of_slots pairs = record { last_set = pairs - 1; ways = 2; grain = 4 }

-- the layout of so many slots
abbrev pub layout_of : ℕ → Layout
layout_of slots = if slots == 509 then single_slots else pairs_of_slots (slots / 2)

-- A power of two.
pub record IsPowerOfTwo (number : ℕ) : Type 0 where
  pub exponent : ℕ
  pub is : number ≡ 2 ^ exponent

-- A power of two from 2 to 2^20.
pub record IsCountOfPairs (slots : ℕ) : Type 0 where
  pub exponent : ℕ
  pub least : 1 ≤ exponent
  pub most : exponent ≤ 20
  pub is : slots ≡ 2 ^ exponent

-- a cache can have so many slots: 509, or a power of two from 2 to 2^20
abbrev pub IsSlotCount : ℕ → Type 0
IsSlotCount slots = (slots ≡ 509) ⊎ IsCountOfPairs slots

-- how many sets there are
abbrev pub sets_in : Layout → ℕ
sets_in layout = layout.last_set + 1

-- The set of an address: the remainder by the number of sets.
abbrev pub set_of : Layout → ℕ → ℕ
set_of layout address = address / layout.grain % sets_in layout

-- the slots of a set with nothing in them
abbrev pub empty_set : {Rule : Type 0} → Layout → List (Option Rule)
empty_set layout = replicate layout.ways None

-- the slots of a cache with nothing in them
abbrev pub empty_sets : {Rule : Type 0} → Layout → List (List (Option Rule))
empty_sets layout = replicate (sets_in layout) (empty_set layout)

-- A cache as contracts see it: its layout, what is in the slots of each set, the newest first, and its counts.
pub record Kept (Rule : Type 0) : Type 0 where
  pub layout : Layout
  pub sets : List (List (Option (KeptRule Rule)))
  pub counts : CacheStats

-- The key of a look-up.
abbrev pub key_of : ℕ → Bool → ℕ → Key
key_of address is_first generation = record { address = address; is_first = is_first; generation = generation }

-- The slots of a set, by its number.
abbrev pub slots_of : {Rule : Type 0} → Layout → List (List (Option Rule)) → ℕ → List (Option Rule)
slots_of layout sets set = slice_index_or sets set (empty_set layout)

-- The slots of a set in which one more is kept: it is the newest, and the oldest falls out.
abbrev pub with_newest : {Rule : Type 0} → Layout → Rule → List (Option Rule) → List (Option Rule)
with_newest layout kept slots = take layout.ways (Some kept ∷ slots)

-- The sets with a rule kept under a key: only the key's set changes.
abbrev pub with_kept : {Rule : Type 0} → Layout → List (List (Option (KeptRule Rule))) → Key → Rule
    → List (List (Option (KeptRule Rule)))
with_kept layout sets key rule =
    let set = set_of layout key.address in
    slice_set sets set (with_newest layout (kept_under key rule) (slots_of layout sets set))

-- What a look-up finds.
pub data Finding (Rule : Type 0) : Type 0 where
  Hits : Rule → Finding Rule
  EmptySlot : Finding Rule
  OtherModules : Finding Rule
  OtherAddress : Finding Rule

-- What a look-up for a key finds in one slot: nothing, an entry of another generation, an entry of
-- another address or kind of frame, or the rule.
abbrev pub finding_for : {Rule : Type 0} → Key → Option (KeptRule Rule) → Finding Rule
finding_for key None = EmptySlot
finding_for key (Some entry) =
    if entry.key.generation == key.generation
    then (if entry.key.address == key.address && beq entry.key.is_first key.is_first then Hits entry.rule else OtherAddress)
    else OtherModules

-- the rule that was found, or else what another slot has
abbrev pub or_else_finding : {Rule : Type 0} → Finding Rule → Finding Rule → Finding Rule
or_else_finding (Hits rule) other = Hits rule
or_else_finding EmptySlot other = other
or_else_finding OtherModules other = other
or_else_finding OtherAddress other = other

-- What a look-up for a key finds in the slots of a set: the rule in the first that has it. Without one the last slot says why, from
-- which a rule falls out if another is kept.
abbrev pub finding_among : {Rule : Type 0} → Key → List (Option (KeptRule Rule)) → Finding Rule
finding_among key [] = EmptySlot
finding_among key (slot ∷ []) = finding_for key slot
finding_among key (slot ∷ next ∷ others) = or_else_finding (finding_for key slot) (finding_among key (next ∷ others))

-- What a look-up for a key finds in the key's set.
abbrev pub found_in : {Rule : Type 0} → Layout → List (List (Option (KeptRule Rule))) → Key → Finding Rule
found_in layout sets key = finding_among key (slots_of layout sets (set_of layout key.address))

-- The key under which a rule is kept in a slot, if there is one.
abbrev pub key_in : {Rule : Type 0} → Option (KeptRule Rule) → Option Key
key_in there = option_map (λ entry. entry.key) there

-- A count with one more, which stops at 2^64 - 1.
abbrev pub one_more : ℕ → ℕ
one_more count = min (count + 1) (2 ^ 64 - 1)

-- The counts after a look-up: one more of what it came to.
abbrev pub counts_after : {Rule : Type 0} → Finding Rule → CacheStats → CacheStats
counts_after (Hits rule) counts = record counts { hit_count = one_more counts.hit_count }
counts_after EmptySlot counts = record counts { miss_empty_slot_count = one_more counts.miss_empty_slot_count }
counts_after OtherModules counts = record counts { miss_wrong_modules_count = one_more counts.miss_wrong_modules_count }
counts_after OtherAddress counts = record counts { miss_wrong_address_count = one_more counts.miss_wrong_address_count }

-- The look-ups that found no rule.
abbrev pub misses_of : CacheStats → ℕ
misses_of counts = counts.miss_empty_slot_count + counts.miss_wrong_modules_count + counts.miss_wrong_address_count

-- What a look-up for a key finds in a cache.
abbrev pub found_by : {Rule : Type 0} → Kept Rule → Key → Finding Rule
found_by cache key = found_in cache.layout cache.sets key

-- The counts of a cache after a look-up for a key.
abbrev pub counts_after_lookup : {Rule : Type 0} → Key → Kept Rule → CacheStats
counts_after_lookup key cache = counts_after (found_by cache key) cache.counts

-- No look-up so far.
abbrev pub no_counts : CacheStats
no_counts = record { hit_count = 0; miss_empty_slot_count = 0; miss_wrong_modules_count = 0; miss_wrong_address_count = 0 }

-- A new cache of so many slots.
abbrev pub new_kept : {Rule : Type 0} → ℕ → Kept Rule
new_kept slots = let layout = layout_of slots in record { layout = layout; sets = empty_sets layout; counts = no_counts }
